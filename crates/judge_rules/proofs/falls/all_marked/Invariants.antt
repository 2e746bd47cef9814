use Rattle.std.proofs.Common.{◌≡◌, map, take}
use Rattle.judge_state.specs.Moves.{marked}
use Rattle.judge_rules.proofs.falls.all_marked.Given as goal

abbrev pub invariant-loop-state : goal.invariant-loop-state
invariant-loop-state l = l.marked.items ≡ map (marked l.x) (take l.state-index l.states)
