use Rattle.std.proofs.Common.{◌≡◌, take}
use Rattle.log_outcomes.specs.Boots.{boot_in}
use Rattle.log_outcomes.proofs.boots.boot_of.Given as goal

abbrev pub invariant-loop-kept : goal.invariant-loop-kept
invariant-loop-kept l = l.boot ≡ boot_in (take l.kept-index l.records)
