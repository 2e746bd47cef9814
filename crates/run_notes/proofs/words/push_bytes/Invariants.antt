use Rattle.std.proofs.Common.{◌≡◌, ◌++◌, take}
use Rattle.run_notes.specs.Words.{bytes_text}
use Rattle.run_notes.proofs.words.push_bytes.Given as goal

abbrev pub invariant-loop-byte : goal.invariant-loop-byte
invariant-loop-byte l = l.out.items ≡ l.initial.out.items ++ bytes_text (take l.byte-index l.bytes)
