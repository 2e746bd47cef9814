use Rattle.std.proofs.Common.{ℕ, ◌<◌, map}
use Rattle.judge_script.specs.Numbers.{IsPlace}
use Rattle.judge_script.proofs.names.place_of_word.Given as goal

abbrev pub invariant-loop-i : goal.invariant-loop-i
invariant-loop-i l = (k : ℕ) → k < l.i → IsPlace (map (λ s. s.now) l.words) k l.word → ⊥
