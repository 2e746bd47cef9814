use Rattle.std.proofs.Common.{◌≡◌, take}
use Rattle.judge_set.specs.Resuming.{resumed}
use Rattle.judge_set.proofs.resuming.resumed.Given as goal

abbrev pub invariant-loop-state : goal.invariant-loop-state
invariant-loop-state l = l.after.items ≡ resumed l.event (take l.state-index l.states)
