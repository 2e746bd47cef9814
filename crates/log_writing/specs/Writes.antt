-- A record that a process writes into its log.
use Rattle.std.specs.Prelude.{◌≡◌, ◌≤◌, ⊤, Bool, Option, List, [], ◌∷◌, map}
use Rattle.std.specs.List.{AllByRecursion}
use Rattle.protocol.specs.declared.events.StepError.{StepError}
use Rattle.protocol.specs.declared.events.StepError.TheVariants.{Exhausted, Memory}
use Rattle.protocol.specs.declared.names.Kind.TheVariants.{Coordinator}
use Rattle.protocol.specs.declared.names.ProcessId.{ProcessId}
use Rattle.protocol.specs.declared.records.Record.{Record}
use Rattle.protocol.specs.LogNames.{in_log}
use Rattle.log_rules.specs.sound.Sound.{IsSound}
use Rattle.protocol.specs.declared.records.LogRecord.{LogRecord}
use Rattle.log_records.specs.Sights.{LogState}
use Rattle.process_state.specs.States.{wrote}

-- there is room for the frame of any one record: five bytes, and a payload of at most 65,535
abbrev pub HasRecordRoom : LogState → Type 0
HasRecordRoom l = 65540 ≤ l.room

-- the record is after the others; where it is forced, all records are
pub record WritesRecord (old new : LogState) (l : LogRecord) (forced : Bool) : Type 0 where
  pub sight : new.sight ≡ wrote old.sight (record { entry = l.entry; is_forced = forced } ∷ []) (l ∷ [])

-- each of these records can be in the log of a coordinator below this parent
abbrev pub AreHeld : Option ProcessId → List Record → Type 0
AreHeld parent rs = AllByRecursion (IsSound Coordinator) (map (in_log parent) rs)

-- why a coordinator below this parent has no frames of these records: memory was refused, or one of them can
-- be in no log of a coordinator
abbrev pub NotFramed : Option ProcessId → List Record → StepError → Type 0
NotFramed parent rs Memory = ⊤
NotFramed parent rs Exhausted = AreHeld parent rs → ⊥
NotFramed parent rs e = ⊥
