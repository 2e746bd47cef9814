use Rattle.std.proofs.Common.{◌≡◌, fold, false, length, map}
use Rattle.protocol.specs.Records.{reported_after}
use Rattle.coord_records.proofs.reports.is_reported.Given as goal

abbrev pub invariant-loop-rest : goal.invariant-loop-rest
invariant-loop-rest l = fold (reported_after l.fn.case) false (map (λ r. r.entry) l.fn.records)
    ≡ fold (reported_after l.fn.case) l.reported (map (λ r. r.entry) l.rest)

abbrev pub decreases-loop-rest : goal.decreases-loop-rest
decreases-loop-rest l = length l.rest
