use Rattle.std.proofs.Common.{◌≡◌, ◌++◌, drop}
use Rattle.log_lines.specs.Words.{writes_words}
use Rattle.log_lines.proofs.words.push_writes.Given as goal

abbrev pub invariant-loop-write : goal.invariant-loop-write
invariant-loop-write l = l.out.items ++ writes_words (drop l.write-index l.writes) ≡ l.initial.out.items
    ++ writes_words l.writes
