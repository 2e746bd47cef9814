use Rattle.std.proofs.Common.{◌≡◌, ◌++◌, drop, map}
use Rattle.protocol.specs.Nodes.{logged_of}
use Rattle.protocol.specs.Restarts.{forced_all}
use Rattle.coord_cases.proofs.reopening.all_shown.Given as goal

abbrev pub invariant-loop-record : goal.invariant-loop-record
invariant-loop-record l = l.all.items ++ map logged_of (forced_all (drop l.record-index l.records))
    ≡ map logged_of (forced_all l.records)
