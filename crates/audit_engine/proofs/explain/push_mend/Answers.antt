use Rattle.std.proofs.Common.{◌∙◌, ◌++◌, ap}
use Rattle.std.specs.Fmt.{decimal}
use Rattle.protocol.specs.declared.names.ProcessId.{ProcessId}
use Rattle.audit_engine.proofs.Explaining.{mend_pushed}
use Rattle.audit_engine.proofs.Texts.{on_ok}
use Rattle.audit_engine.proofs.explain.push_mend.Goals as goal

pub returns : goal.returns
returns c =
    on_ok c.push-3.result
    (mend_pushed c.args.case.now c.args.out.now.items c.push.new.out.items c.push_number.new.out.items
    c.push-2.new.out.items c.push_case.new.out.items c.push-3.new.out.items c.in_ok-push.ensures
    (c.in_ok-push_number.ensures ∙ ap (λ n. c.push.new.out.items ++ decimal n) c.from.ensures
    ∙ ap (λ (p : ProcessId). c.push.new.out.items ++ decimal p.0) c.process.ensures)
    c.in_ok-push-2.ensures c.in_ok-push_case.ensures)
    c.push-3.ensures
