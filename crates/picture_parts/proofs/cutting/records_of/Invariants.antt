use Rattle.std.proofs.Common.{◌≡◌, take}
use Rattle.std.specs.Prelude.{filter}
use Rattle.picture_parts.specs.Cut.{record_stays}
use Rattle.picture_parts.proofs.cutting.records_of.Given as goal

abbrev pub invariant-loop-logged : goal.invariant-loop-logged
invariant-loop-logged l = l.stay.items ≡ filter (record_stays l.only) (take l.logged-index l.written)
