use Rattle.std.proofs.Common.{◌≡◌, map, take}
use Rattle.judge_state.specs.Moves.{brought_back}
use Rattle.judge_rules.proofs.falls.all_brought_back.Given as goal

abbrev pub invariant-loop-state : goal.invariant-loop-state
invariant-loop-state l = l.back.items ≡ map (brought_back l.branch l.works) (take l.state-index l.states)
