use Rattle.std.proofs.Common.{◌≡◌, fold, length}
use Rattle.protocol.specs.LogNames.{own_records}
use Rattle.coord_records.specs.Readings.{noted, nothing_read, place_below}
use Rattle.coord_records.proofs.reading.CaseReading.noting.Given as goal

abbrev pub invariant-loop-rest : goal.invariant-loop-rest
invariant-loop-rest l =
    fold noted nothing_read (own_records (place_below l.fn.me l.fn.parent l.fn.tree) l.fn.records)
    ≡ fold noted l.reading (own_records (place_below l.fn.me l.fn.parent l.fn.tree) l.rest)

abbrev pub decreases-loop-rest : goal.decreases-loop-rest
decreases-loop-rest l = length l.rest
