use Rattle.std.proofs.Common.{ℕ, ◌<◌, map}
use Rattle.judge_script.specs.declared.asking.TranscriptCall.{TranscriptCall}
use Rattle.judge_script.specs.declared.answers.SaidAnswer.{SaidAnswer}
use Rattle.judge_script.specs.Numbers.{AreParted}
use Rattle.judge_script.proofs.reading.parts_of.Given as goal

abbrev pub invariant-loop-place : goal.invariant-loop-place
invariant-loop-place l =
    (k : ℕ) → k < l.place → (a : TranscriptCall) (s : SaidAnswer) → AreParted (map (λ s. s.now) l.words) k a s
    → ⊥
