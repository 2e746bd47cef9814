use Rattle.std.proofs.Common.{◌≡◌, length, map}
use Rattle.coord_records.specs.Numbered.{are_numbered}
use Rattle.coord_records.proofs.numbers.are_numbered.Given as goal

abbrev pub invariant-loop-rest : goal.invariant-loop-rest
invariant-loop-rest l = are_numbered 0 (map (λ r. r.entry) l.fn.records)
    ≡ are_numbered l.boot (map (λ r. r.entry) l.rest)

abbrev pub decreases-loop-rest : goal.decreases-loop-rest
decreases-loop-rest l = length l.rest
