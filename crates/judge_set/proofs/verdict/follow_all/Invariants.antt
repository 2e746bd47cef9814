use Rattle.std.proofs.Common.{ℕ, take, ◌+◌, ◌<◌, length}
use Rattle.judge_rules.specs.Sets.{AreMany}
use Rattle.judge_set.specs.Sets.{AreStatesLeft, MayLead}
use Rattle.judge_set.proofs.verdict.follow_all.Given as goal

abbrev pub invariant-loop-i : goal.invariant-loop-i
invariant-loop-i l = record {
  left : AreStatesLeft l.rules l.fn.starts.items (take l.i l.events) l.states.items;
  some : 0 < length l.states.items;
  few : (j : ℕ) → j < l.i → AreMany (MayLead l.rules l.fn.starts.items (take (j + 1) l.events)) → ⊥;
}
