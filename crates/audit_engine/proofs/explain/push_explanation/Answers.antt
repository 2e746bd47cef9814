use Rattle.std.proofs.Common.{◌∙◌, ◌++◌, ap}
use Rattle.audit_engine.specs.Explanations.{do_text, steps_text}
use Rattle.audit_engine.proofs.Explaining.{explanation_pushed}
use Rattle.audit_engine.proofs.Texts.{on_ok}
use Rattle.audit_engine.proofs.explain.push_explanation.Goals as goal

pub returns : goal.returns
returns c =
    on_ok c.push_do.result
    (λ last. λ logs are.
    explanation_pushed c.args.tree.now logs c.args.line.now c.args.out.now.items
    c.push_told_part.new.out.items
    c.push_steps.new.out.items c.push_do.new.out.items c.in_ok-steps.steps.items
    c.in_ok-push_told_part.ensures
    (c.in_ok-push_steps.ensures
    ∙ ap (λ ss. c.push_told_part.new.out.items ++ steps_text c.args.line.now.case.txn.presumption ss)
    c.deref.ensures.value)
    (last ∙ ap (λ ss. c.push_steps.new.out.items ++ do_text c.args.line.now.mismatch c.args.line.now.case ss)
    c.deref-2.ensures.value)
    (c.in_ok-steps.ensures logs are))
    c.push_do.ensures
