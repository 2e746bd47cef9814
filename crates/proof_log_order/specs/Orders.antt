-- When the records of a process may follow one another in its log.
use Rattle.std.specs.Prelude.{◌≡◌, ◌++◌, ℕ, true, is_some, List, [], ◌∷◌, length, map, Option, Some, None}
use Rattle.std.specs.List.{AllByRecursion}
use Rattle.protocol.specs.declared.names.Case.{Case}
use Rattle.protocol.specs.declared.names.ProcessId.{ProcessId}
use Rattle.protocol.specs.declared.names.Kind.TheVariants.{Coordinator}
use Rattle.protocol.specs.declared.records.LogRecord.{LogRecord}
use Rattle.protocol.specs.declared.records.Record.{Record}
use Rattle.protocol.specs.declared.trees.TreeProcess.{TreeProcess}
use Rattle.protocol.specs.Branches.{FitsBelow, FitsTxn}
use Rattle.protocol.specs.LogNames.{below_of, in_log, parent_of}
use Rattle.protocol.specs.Nodes.{kept, role_of}
use Rattle.protocol.specs.Records.{record_case}
use Rattle.protocol.specs.Restarts.{left_of, reopens}
use Rattle.protocol.specs.World.{World}
use Rattle.log_text.specs.Forms.{header, log_form}
use Rattle.log_text.specs.Frames.{first_frame}
use Rattle.log_text.specs.declared.form.LogFormat.TheVariants.{Second}
use Rattle.log_text.specs.Payloads.{records_text}
use Rattle.log_rules.specs.order.Logs.{Whole, read_log}
use Rattle.log_rules.specs.sound.Sound.{IsSound}
use Rattle.kv_state.specs.Replays.{seen_of}

-- the numbers of the case's name fit the bytes of its XID, where there is a case
abbrev pub NameFits : Option ProcessId → Option Case → Type 0
NameFits p None = Unit {0}
NameFits p (Some c) = FitsTxn c.txn × FitsBelow (below_of c.ticket p)

-- so do those of each record's
abbrev pub NamesFit : Option ProcessId → List Record → Type 0
NamesFit p [] = Unit {0}
NamesFit p (r ∷ rs) = NameFits p (record_case r) × NamesFit p rs

-- the records may follow one another in the log of a process below this parent
abbrev pub AreOrdered : Option ProcessId → List Record → Type 0
AreOrdered p rs = is_some (seen_of (map (in_log p) rs)) ≡ true

-- the log of a process, record by record
abbrev pub log_of : List TreeProcess → World → ProcessId → List LogRecord
log_of tree w q = map (in_log (parent_of (role_of tree q))) (kept (w.at q))

-- as bytes after a header it reads as these records in the log of each coordinator, with any torn tail after
-- them
abbrev pub IsReadWhole : List LogRecord → Type 0
IsReadWhole ls = (q : ProcessId) (tail : List ℕ) → first_frame Second tail ≡ None
    → read_log (log_form q Coordinator) (header Second ++ (records_text (log_form q Coordinator) ls ++ tail))
    ≡ Whole ls (length tail)

-- each record can be in the log of a coordinator: its numbers are within their bounds, and it names 255
-- tickets at most, an End that reports in each of its two lists
abbrev pub CanStand : List LogRecord → Type 0
CanStand ls = AllByRecursion (IsSound Coordinator) ls

-- what a restart of a process appends to its log, where a crash leaves N of its unforced records
abbrev pub appended : List TreeProcess → World → ProcessId → ℕ → List LogRecord
appended tree w q k = map (in_log (parent_of (role_of tree q)))
    (reopens (role_of tree q) (left_of (w.at q) k))
