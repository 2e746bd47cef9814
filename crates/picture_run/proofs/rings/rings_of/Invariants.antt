use Rattle.std.proofs.Common.{◌≡◌, Some, map, take}
use Rattle.picture_run.specs.Rings.{ring_words, told}
use Rattle.picture_run.proofs.rings.rings_of.Given as goal

abbrev pub invariant-loop-place : goal.invariant-loop-place
invariant-loop-place l = map ring_words l.rings.items ≡ map Some (told (take l.place l.notes))
