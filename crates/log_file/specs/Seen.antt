-- A log's file that was looked at.
use Rattle.std.specs.Prelude.{ℕ, List}
use Rattle.log_file.specs.declared.opening.SeenLog.{SeenLog}

-- the bytes of the log that was found
abbrev pub seen_bytes : SeenLog → List ℕ
seen_bytes s = s.bytes.items
