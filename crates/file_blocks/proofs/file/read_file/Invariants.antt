use Rattle.std.proofs.Common.{length}
use Rattle.file_blocks.specs.Files.{Begun}
use Rattle.file_blocks.proofs.file.read_file.Given as goal

abbrev pub invariant-loop-payload : goal.invariant-loop-payload
invariant-loop-payload l = Begun l.bytes l.number l.rest l.held.items

abbrev pub decreases-loop-payload : goal.decreases-loop-payload
decreases-loop-payload l = length l.rest
