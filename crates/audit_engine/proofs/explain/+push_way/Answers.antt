use Rattle.std.proofs.Common.{◌∙◌, ◌++◌, ap, sym}
use Rattle.std.specs.Fmt.{decimal}
use Rattle.audit_engine.proofs.Reporting.{way_goes_on}
use Rattle.audit_engine.proofs.Texts.{on_ok}
use Rattle.audit_engine.proofs.explain.+push_way.Goals as goal

pub returns : goal.returns
returns t c =
    on_ok c.push_way.result
    (way_goes_on c.args.tree.now c.args.process c.in-Some.parent c.args.out.now.items c.push.new.out.items
    c.push_number.new.out.items c.push-2.new.out.items c.push_number-2.new.out.items c.push_way.new.out.items
    c.args.most c.if-most-eq0.false (sym c.parent.ensures ∙ c.in-Some.is) c.in_ok-push.ensures
    (c.in_ok-push_number.ensures ∙ ap (λ n. c.push.new.out.items ++ decimal n) c.from.ensures)
    c.in_ok-push-2.ensures
    (c.in_ok-push_number-2.ensures ∙ ap (λ n. c.push-2.new.out.items ++ decimal n) c.from-2.ensures))
    c.push_way.ensures
