use Rattle.std.proofs.Common.{◌≡◌, ◌++◌, take}
use Rattle.picture_shapes.specs.Words.{escaped}
use Rattle.picture_shapes.proofs.words.push_escaped.Given as goal

abbrev pub invariant-loop-byte : goal.invariant-loop-byte
invariant-loop-byte l = l.out.items ≡ l.initial.out.items ++ escaped (take l.byte-index l.words)
