use Rattle.std.proofs.Common.{◌≡◌, take}
use Rattle.cluster_turns.specs.Turns.{all_of}
use Rattle.cluster_engine.specs.Told.{told_in}
use Rattle.cluster_engine.proofs.told.all_told.Given as goal

abbrev pub invariant-loop-place : goal.invariant-loop-place
invariant-loop-place l = l.all.items ≡ told_in (all_of (take l.place l.turns))
