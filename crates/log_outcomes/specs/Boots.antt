-- The boot of a process, as its log tells.
use Rattle.std.specs.Prelude.{ℕ, List, fold}
use Rattle.protocol.specs.declared.records.LogRecord.{LogRecord}
use Rattle.protocol.specs.Records.{boot_after}

-- the boot after a record of the log
abbrev pub boot_behind : ℕ → LogRecord → ℕ
boot_behind b l = boot_after b l.entry

-- the boot by the last Opened record of a log; 0 if there is none
abbrev pub boot_in : List LogRecord → ℕ
boot_in ls = fold boot_behind 0 ls
