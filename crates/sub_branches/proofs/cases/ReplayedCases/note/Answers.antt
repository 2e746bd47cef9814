use Rattle.std.proofs.Common.{◌∙◌, ◌∷◌, [], ◌++◌, refl, ap, if◌then◌else◌}
use Rattle.sub_branches.proofs.Noting.{has_as}
use Rattle.sub_branches.proofs.cases.ReplayedCases.note.Goals as goal

pub returns : goal.returns
returns c = (
  refl,
  c.in_ok-insert.ensures.keys ∙ ap (λ t. if t then c.args.self.now.order.keys
      else (c.args.self.now.order.keys ++ c.args.case ∷ [])) (has_as c.args.self.now.order.keys c.args.case),
)
