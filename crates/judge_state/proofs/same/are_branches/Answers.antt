use Rattle.std.proofs.Common.{◌≡◌, true, rules}
use Rattle.std.proofs.lemmas.Slice.Eq.{slice_eq-Decides}
use Rattle.judge_state.specs.declared.parts.JudgedBranch.{JudgedBranch}
use Rattle.judge_state.specs.contracts.parts.JudgedBranchPartialEq.TheImpl.{eq-value as are_equal}
use Rattle.judge_state.proofs.same.are_branches.Goals as goal

sound : (a b : JudgedBranch) → are_equal.it a b ≡ true → a ≡ b
sound a b h = search rules

whole : (a b : JudgedBranch) → a ≡ b → are_equal.it a b ≡ true
whole a b h = search rules

pub returns : goal.returns
returns c = slice_eq-Decides (λ a b. (sound a b, whole a b)) _ _ _ c.eq.ensures
