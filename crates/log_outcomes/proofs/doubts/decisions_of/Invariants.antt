use Rattle.std.proofs.Common.{◌≡◌, take}
use Rattle.log_outcomes.specs.Doubts.{decisions_in}
use Rattle.log_outcomes.proofs.doubts.decisions_of.Given as goal

abbrev pub invariant-loop-kept : goal.invariant-loop-kept
invariant-loop-kept l = l.decisions.items ≡ decisions_in (take l.kept-index l.records)
