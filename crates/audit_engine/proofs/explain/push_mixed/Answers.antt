use Rattle.std.proofs.Common.{◌∙◌, ◌++◌, ap}
use Rattle.std.specs.Fmt.{decimal}
use Rattle.audit_engine.proofs.Reporting.{mixed_pushed}
use Rattle.audit_engine.proofs.Texts.{on_ok}
use Rattle.audit_engine.proofs.explain.push_mixed.Goals as goal

pub returns : goal.returns
returns c =
    on_ok c.push-4.result
    (mixed_pushed c.args.tree.now c.args.root.now c.args.ticket.now c.args.out.now.items
    c.push_reporter.new.out.items c.push.new.out.items c.push_number.new.out.items c.push-2.new.out.items
    c.push_case.new.out.items c.push-3.new.out.items c.push_case-2.new.out.items c.push-4.new.out.items
    c.in_ok-push_reporter.ensures c.in_ok-push.ensures
    (c.in_ok-push_number.ensures ∙ ap (λ n. c.push.new.out.items ++ decimal n) c.from.ensures)
    c.in_ok-push-2.ensures c.in_ok-push_case.ensures c.in_ok-push-3.ensures c.in_ok-push_case-2.ensures)
    c.push-4.ensures
