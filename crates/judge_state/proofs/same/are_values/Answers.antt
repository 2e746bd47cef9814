use Rattle.std.proofs.Common.{◌≡◌, true, rules}
use Rattle.std.proofs.lemmas.Slice.Eq.{slice_eq-Decides}
use Rattle.judge_state.specs.declared.parts.JudgedWrite.{JudgedWrite}
use Rattle.judge_state.specs.contracts.parts.JudgedWritePartialEq.TheImpl.{eq-value as are_equal}
use Rattle.judge_state.proofs.same.are_values.Goals as goal

sound : (a b : JudgedWrite) → are_equal.it a b ≡ true → a ≡ b
sound a b h = search rules

whole : (a b : JudgedWrite) → a ≡ b → are_equal.it a b ≡ true
whole a b h = search rules

pub returns : goal.returns
returns c = slice_eq-Decides (λ a b. (sound a b, whole a b)) _ _ _ c.eq.ensures
