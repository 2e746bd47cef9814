use Rattle.std.proofs.Common.{length}
use Rattle.coord_records.specs.Readings.{place_below}
use Rattle.coord_records.proofs.Remembering.{ReadsOn}
use Rattle.coord_records.proofs.remembered.RememberedCases.read_on.Given as goal

abbrev pub invariant-loop-rest : goal.invariant-loop-rest
invariant-loop-rest l = ReadsOn (place_below l.fn.me l.fn.parent l.fn.tree) l.fn.self l.self
    l.fn.records l.rest

abbrev pub decreases-loop-rest : goal.decreases-loop-rest
decreases-loop-rest l = length l.rest
