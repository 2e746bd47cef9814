use Rattle.std.proofs.Common.{◌≡◌, ◌+◌, drop}
use Rattle.file_blocks.specs.Blocks.{has_head}
use Rattle.file_blocks.proofs.block.has_head.Given as goal

abbrev pub invariant-loop-i : goal.invariant-loop-i
invariant-loop-i l = has_head l.number l.place l.bytes ≡ has_head l.number (l.place + l.i) (drop l.i l.bytes)
