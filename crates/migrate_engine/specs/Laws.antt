-- The laws of a log that was migrated.
use Rattle.std.specs.Prelude.{◌≡◌, ℕ, List}
use Rattle.protocol.specs.declared.records.LogRecord.{LogRecord}
use Rattle.protocol.specs.declared.trees.TreeProcess.{TreeProcess}
use Rattle.log_rules.specs.order.Logs.{Whole, read_as}
use Rattle.log_rules.specs.sound.Written.{AreBytes}
use Rattle.log_script.specs.declared.line.ProcessLog.{ProcessLog}
use Rattle.migrate_engine.specs.Migrations.{MigratesTo, migrated_log}

-- a log that was migrated reads as the same records, and has no torn tail
abbrev pub SameRecords : Type 0
SameRecords = (e : TreeProcess) (bytes : List ℕ) (ls : List LogRecord) (torn : ℕ) → AreBytes bytes
    → read_as e.id e.kind bytes ≡ Whole ls torn
    → read_as e.id e.kind (migrated_log e bytes).bytes ≡ Whole ls 0

-- a log that was migrated is migrated to itself
abbrev pub MigratedStays : Type 0
MigratedStays = (e : TreeProcess) (bytes : List ℕ) (log : ProcessLog) → AreBytes bytes
    → MigratesTo e bytes log
    → MigratesTo e log.bytes log
