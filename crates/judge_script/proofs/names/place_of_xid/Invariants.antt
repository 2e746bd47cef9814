use Rattle.std.proofs.Common.{ℕ, ◌<◌}
use Rattle.judge_script.specs.Numbers.{IsPlace}
use Rattle.judge_script.proofs.names.place_of_xid.Given as goal

abbrev pub invariant-loop-i : goal.invariant-loop-i
invariant-loop-i l = (k : ℕ) → k < l.i → IsPlace l.xids k l.xid → ⊥
