use Rattle.audit_engine.proofs.Texts.{line_pushed, on_ok, outcome_pushed}
use Rattle.audit_engine.proofs.lines.push_line.Goals as goal

pub returns : goal.returns
returns c =
    on_ok c.push-6.result
    (line_pushed c.args.line.now c.args.out.now.items c.push-3.new.out.items c.push-4.new.out.items
    c.push-5.new.out.items c.push_reports.new.out.items c.push-6.new.out.items c.outcome_word.result.now
    c.mismatch_word.result.now
    (outcome_pushed c.args.line.now c.args.out.now.items c.push_case.new.out.items c.push.new.out.items
    c.push-2.new.out.items c.push-3.new.out.items c.own_word.result.now
    c.in_ok-push_case.ensures c.in_ok-push.ensures
    c.in_ok-push-2.ensures c.own_word.ensures c.in_ok-push-3.ensures)
    c.in_ok-push-4.ensures c.outcome_word.ensures c.in_ok-push-5.ensures c.mismatch_word.ensures
    c.in_ok-push_reports.ensures)
    c.push-6.ensures
