use Rattle.std.proofs.Common.{◌≡◌, take}
use Rattle.cluster_engine.specs.Told.{told_places}
use Rattle.cluster_engine.proofs.told.places_of.Given as goal

abbrev pub invariant-loop-place : goal.invariant-loop-place
invariant-loop-place l = l.places.items ≡ told_places 0 (take l.place l.told)
