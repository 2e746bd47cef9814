use Rattle.std.proofs.Common.{◌∙◌, sym}
use Rattle.audit_engine.proofs.Explaining.{none_pushed, why_pushed}
use Rattle.audit_engine.proofs.explain.push_why.Goals as goal

pub returns-in_ok-push_explanation : goal.returns-in_ok-push_explanation
returns-in_ok-push_explanation c = λ logs are.
    why_pushed c.args.tree.now logs c.args.line.now c.args.out.now.items c.push_explanation.new.out.items
    (sym c.is_explained.ensures ∙ c.if-is_explained.true) (c.in_ok-push_explanation.ensures logs are)

pub returns-else-is_explained : goal.returns-else-is_explained
returns-else-is_explained c = λ logs are.
    none_pushed c.args.tree.now logs c.args.line.now c.args.out.now.items
    (sym c.is_explained.ensures ∙ c.if-is_explained.false)
