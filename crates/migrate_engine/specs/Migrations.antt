-- What is written of a tree and its logs by the second format.
use Rattle.std.specs.Prelude.{◌≡◌, ℕ, List, [], ◌++◌, map, None, ⊤}
use Rattle.protocol.specs.declared.records.LogRecord.{LogRecord}
use Rattle.protocol.specs.declared.trees.TreeProcess.{TreeProcess}
use Rattle.log_text.specs.declared.form.LogForm.{LogForm}
use Rattle.log_text.specs.Forms.{header, log_form}
use Rattle.log_text.specs.Payloads.{records_text}
use Rattle.log_rules.specs.order.Logs.{LogReading, Whole, Damaged, read_as}
use Rattle.log_script.specs.declared.line.ProcessLog.{ProcessLog}
use Rattle.log_script.specs.Faults.{first_damage}
use Rattle.log_script.specs.Lines.{process_log}
use Rattle.log_script.specs.Logs.{IsLogsText, bytes_of}
use Rattle.log_script.specs.Refusals.{RefusesLogText, TellsDamage}
use Rattle.log_script.specs.Trees.{logs_text}
use Rattle.log_records.specs.declared.migrating.MigrateError.{MigrateError}
use Rattle.log_records.specs.declared.migrating.MigrateError.TheVariants as error
use Rattle.report_io.specs.declared.status.Status.{Status}
use Rattle.report_io.specs.declared.status.Status.TheVariants.{Ended, Refused, Stopped}

-- the text of a log of this form that was read so: the header and its records, and no torn tail
abbrev pub text_by : LogForm → LogReading → List ℕ
text_by f (Whole ls torn) = header f.format ++ records_text f ls
text_by f (Damaged place) = []

-- the log of a process by the second format: the records that its bytes read as, by the format that they name
unfoldable pub migrated_log : TreeProcess → List ℕ → ProcessLog
migrated_log e bytes = process_log e.id (text_by (log_form e.id e.kind) (read_as e.id e.kind bytes))

-- the log of a process is sound, and this is it by the second format
pub record MigratesTo (e : TreeProcess) (bytes : List ℕ) (log : ProcessLog) : Type 0 where
  pub records : List LogRecord
  pub torn : ℕ
  pub read : read_as e.id e.kind bytes ≡ Whole records torn
  pub log_is : log ≡ migrated_log e bytes

-- why the log of a process was not migrated
abbrev pub NotMigrated : TreeProcess → List ℕ → MigrateError → Type 0
NotMigrated e bytes error.Memory = ⊤
NotMigrated e bytes error.Device = ⊥
NotMigrated e bytes (error.Damaged place) = read_as e.id e.kind bytes ≡ Damaged place

-- the logs of these processes by the second format, in the order of the processes
unfoldable pub migrated_logs : List TreeProcess → List ProcessLog → List ProcessLog
migrated_logs es logs = map (λ e. migrated_log e (bytes_of logs e.id)) es

-- what is written of logs that were read, by whether one is damaged
abbrev pub IsMigrated : Status → List TreeProcess → List ProcessLog → List ℕ → Type 0
IsMigrated Ended es logs text = (first_damage es logs ≡ None) × (text ≡ logs_text es (migrated_logs es logs))
IsMigrated Refused es logs text = TellsDamage es logs text
IsMigrated Stopped es logs text = ⊥

-- the text is that of the tree and the logs that the input says
pub record MigratesLogs (status : Status) (input text : List ℕ) : Type 0 where
  pub tree : List TreeProcess
  pub logs : List ProcessLog
  pub says : IsLogsText input tree logs
  pub migrates : IsMigrated status tree logs text

-- a damaged log is told, or the input is refused
pub data IsMigrationRefusal (input text : List ℕ) : Type 0 where
  OfLog : MigratesLogs Refused input text → IsMigrationRefusal input text
  OfInput : RefusesLogText input text → IsMigrationRefusal input text

-- what is written of an input, by how the run ends
abbrev pub IsMigration : Status → List ℕ → List ℕ → Type 0
IsMigration Ended input text = MigratesLogs Ended input text
IsMigration Refused input text = IsMigrationRefusal input text
IsMigration Stopped input text = ⊥
