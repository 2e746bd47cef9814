use Rattle.std.proofs.Common.{◌≡◌, ◌++◌, drop}
use Rattle.std.specs.List.{flat_map}
use Rattle.resolve_engine.specs.Sql.{quoted_byte}
use Rattle.resolve_engine.proofs.sql.push_quoted.Given as goal

abbrev pub invariant-loop-byte : goal.invariant-loop-byte
invariant-loop-byte l =
    l.out.items ++ flat_map quoted_byte (drop l.byte-index l.bytes)
    ≡ l.initial.out.items ++ flat_map quoted_byte l.bytes
