use Rattle.std.proofs.Common.{◌≡◌, fold, length}
use Rattle.coord_records.specs.Readings.{noted}
use Rattle.coord_records.proofs.reading.CaseReading.note_all.Given as goal

abbrev pub invariant-loop-rest : goal.invariant-loop-rest
invariant-loop-rest l = fold noted l.fn.self l.fn.records ≡ fold noted l.self l.rest

abbrev pub decreases-loop-rest : goal.decreases-loop-rest
decreases-loop-rest l = length l.rest
