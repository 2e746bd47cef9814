use Rattle.std.proofs.Common.{◌≡◌, take}
use Rattle.crash_engine.specs.Audits.{beyond}
use Rattle.crash_engine.proofs.auditing.cases_beyond.Given as goal

abbrev pub invariant-loop-case : goal.invariant-loop-case
invariant-loop-case l = l.new.items ≡ beyond l.known (take l.case-index l.cases)
