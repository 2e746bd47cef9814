-- What a process reads of a log that was trimmed.
use Rattle.std.specs.Prelude.{◌≡◌, ◌++◌, true, List}
use Rattle.std.specs.List.{AllByRecursion, list_any}
use Rattle.protocol.specs.declared.names.Kind.TheVariants.{Coordinator, Manager}
use Rattle.protocol.specs.declared.names.ProcessId.{ProcessId}
use Rattle.protocol.specs.declared.records.LogRecord.{LogRecord}
use Rattle.protocol.specs.LogNames.{own_records}
use Rattle.protocol.specs.Nodes.{AtLeaf, Place, IsCoordinator}
use Rattle.protocol.specs.Records.{is_opened}
use Rattle.protocol.specs.Restarts.{data_records, trimmed}
use Rattle.log_rules.specs.sound.Sound.{IsSound}
use Rattle.log_rules.specs.trim.Trims.{front_of_trim}

-- a coordinator reads of what a trim keeps of its log just what the model's trim leaves of what it read
-- before
abbrev pub CoordinatorsReadTrims : Type 0
CoordinatorsReadTrims = (place : Place) (ls : List LogRecord) → IsCoordinator place.role
    → AllByRecursion (IsSound Coordinator) ls
    → list_any (λ l. is_opened l.entry) ls ≡ true
    → own_records place (front_of_trim ls) ≡ trimmed place.role (own_records place ls)

-- a manager reads of what a trim keeps of its log, with its data after it, just what the model's trim leaves
-- of what it read before
abbrev pub ManagersReadTrims : Type 0
ManagersReadTrims = (place : Place) (s : ProcessId) (ls : List LogRecord) → place.role ≡ AtLeaf s
    → AllByRecursion (IsSound Manager) ls
    → list_any (λ l. is_opened l.entry) ls ≡ true
    → own_records place (front_of_trim ls) ++ data_records place.role (own_records place ls)
    ≡ trimmed place.role (own_records place ls)
