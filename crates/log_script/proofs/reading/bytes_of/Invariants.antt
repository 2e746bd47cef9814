use Rattle.std.proofs.Common.{◌≡◌, length}
use Rattle.log_script.specs.Logs.{bytes_of}
use Rattle.log_script.proofs.reading.bytes_of.Given as goal

abbrev pub invariant-loop-rest : goal.invariant-loop-rest
invariant-loop-rest l = bytes_of l.rest l.process ≡ bytes_of l.logs l.process

abbrev pub decreases-loop-rest : goal.decreases-loop-rest
decreases-loop-rest l = length l.rest
