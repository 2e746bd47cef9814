use Rattle.std.proofs.Common.{◌≡◌, take}
use Rattle.log_outcomes.specs.Doubts.{doubts_in}
use Rattle.log_outcomes.proofs.doubts.doubts_of.Given as goal

abbrev pub invariant-loop-kept : goal.invariant-loop-kept
invariant-loop-kept l = l.cases.items ≡ doubts_in (take l.kept-index l.records)
