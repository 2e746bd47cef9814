use Rattle.std.proofs.Common.{◌≡◌, ◌++◌, drop}
use Rattle.std.specs.List.{flat_map}
use Rattle.log_text.specs.Payloads.{write_text}
use Rattle.log_text.proofs.encode.push_writes.Given as goal

abbrev pub invariant-loop-write : goal.invariant-loop-write
invariant-loop-write l = l.text.items ++ flat_map write_text (drop l.write-index l.writes)
    ≡ l.initial.text.items ++ flat_map write_text l.writes
