use Rattle.std.proofs.Common.{◌≡◌, fold, length, map}
use Rattle.coord_records.specs.Progress.{no_progress, progress_after}
use Rattle.coord_records.proofs.standings.standing.Given as goal

abbrev pub invariant-loop-rest : goal.invariant-loop-rest
invariant-loop-rest l = fold (progress_after l.fn.case) no_progress (map (λ r. r.entry) l.fn.records)
    ≡ fold (progress_after l.fn.case) l.progress (map (λ r. r.entry) l.rest)

abbrev pub decreases-loop-rest : goal.decreases-loop-rest
decreases-loop-rest l = length l.rest
