use Rattle.std.proofs.Common.{◌≡◌, ◌++◌}
use Rattle.std.specs.List.{flat_map}
use Rattle.coord_records.specs.Readings.{abort_of, reopened_by}
use Rattle.coord_records.proofs.planning.reopens.Given as goal

abbrev pub invariant-loop-case : goal.invariant-loop-case
invariant-loop-case l = l.records.items ++ flat_map abort_of l.case-iterator ≡ reopened_by l.fn.reading
