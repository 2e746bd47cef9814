use Rattle.std.proofs.Common.{◌≡◌, map, take}
use Rattle.judge_state.specs.Moves.{gone}
use Rattle.judge_rules.proofs.falls.all_gone.Given as goal

abbrev pub invariant-loop-state : goal.invariant-loop-state
invariant-loop-state l = l.gone.items ≡ map (gone l.x) (take l.state-index l.states)
