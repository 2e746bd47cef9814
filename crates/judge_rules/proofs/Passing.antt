-- Errors that are passed on.
use Rattle.std.proofs.Common.{◌≡◌, Result, Ok, Err, ◌∙◌, sym}
use Rattle.std.specs.Prelude.{IfErr, IsErrAnd}
use Rattle.judge_rules.specs.declared.errors.JudgeError.{JudgeError}
use Rattle.judge_rules.specs.declared.errors.JudgeError.TheVariants.{TooMany}

-- too many states, as a call says
pub passed_on : {A : Type 0} (P : Type 0) (r : Result A JudgeError) (e : JudgeError) → IsErrAnd r (λ f. f ≡ e)
    → (e ≡ TooMany → P) → IfErr r (λ f. f ≡ TooMany → P)
passed_on P (Ok a) e is h = absurd is
passed_on P (Err f) e is h = λ many. h (sym is ∙ many)
