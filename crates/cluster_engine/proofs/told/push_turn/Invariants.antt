use Rattle.std.proofs.Common.{◌≡◌, ◌++◌, take}
use Rattle.cluster_engine.specs.Told.{told_in}
use Rattle.cluster_engine.proofs.told.push_turn.Given as goal

abbrev pub invariant-loop-place : goal.invariant-loop-place
invariant-loop-place l = l.all.items ≡ l.fn.all.items ++ told_in (take l.place l.turn)
