use Rattle.audit_engine.proofs.Texts.{count_pushed, on_ok}
use Rattle.audit_engine.proofs.lines.push_count.Goals as goal

pub returns : goal.returns
returns c =
    on_ok c.push-2.result
    (count_pushed c.args.count c.args.out.now.items c.push.new.out.items
    c.push_number.new.out.items c.push-2.new.out.items
    c.in_ok-push.ensures c.in_ok-push_number.ensures)
    c.push-2.ensures
