-- A node that starts over a log, and why none did.
use Rattle.std.specs.Prelude.{◌≡◌, ⊤, ℕ, Bool, true, false, ◌&&◌, Option, Some, None, List}
use Rattle.std.specs.List.{list_all}
use Rattle.protocol.specs.declared.names.Case.{Case}
use Rattle.protocol.specs.declared.names.ProcessId.{ProcessId}
use Rattle.protocol.specs.declared.events.Reaction.{Reaction}
use Rattle.protocol.specs.declared.names.Ticket.{Ticket}
use Rattle.protocol.specs.declared.records.LogRecord.{LogRecord}
use Rattle.protocol.specs.declared.records.Record.{Record}
use Rattle.protocol.specs.declared.records.Record.TheVariants.{Collecting, Prepare, Commit, Abort}
use Rattle.protocol.specs.declared.trees.TreeProcess.{TreeProcess}
use Rattle.protocol.specs.LogNames.{is_own}
use Rattle.protocol.specs.Nodes.{is_parent}
use Rattle.protocol.specs.Records.{record_case}
use Rattle.protocol.specs.Trees.{parent_of}
use Rattle.log_text.specs.declared.form.LogForm.{LogForm}
use Rattle.log_rules.specs.order.Logs.{Whole, read_log}
use Rattle.log_records.specs.Openings.{OpensLog}
use Rattle.log_records.specs.Sights.{LogState, records_of}
use Rattle.coord_records.specs.Readings.{place_below}
use Rattle.tree_process.specs.Nodes.{core_of, data_of}
use Rattle.tree_process.specs.declared.reopening.ProcessReopenError.TheVariants.{Memory}
use Rattle.tree_process.specs.Reopenings.{ProcessNotReopened, ReopensAs, form_by, place_by}
use Rattle.node_engine.specs.declared.serving.Serving.{Serving}
use Rattle.node_engine.specs.declared.starting.StartError.{StartError}
use Rattle.node_engine.specs.declared.starting.StartError.TheVariants.{Reopen, Stranger}
use Rattle.node_engine.specs.Answers.{opened, state_of}

-- a case is the process's own, if there is one
abbrev pub owns : ProcessId → Option ProcessId → List TreeProcess → Option ProcessId → Option Case → Bool
owns me parent tree named None = true
owns me parent tree named (Some c) = is_own (place_below me parent tree) named c

-- the ticket is of a child of the process
abbrev pub is_of_child : List TreeProcess → ProcessId → Ticket → Bool
is_of_child tree me t = is_parent me (parent_of tree t.child)

-- the tickets that a record names, whose votes or acknowledgements it waits for, are of children of the
-- process
abbrev pub names_children : List TreeProcess → ProcessId → Record → Bool
names_children tree me (Collecting c ts) = list_all (is_of_child tree me) ts
names_children tree me (Prepare c ts) = list_all (is_of_child tree me) ts
names_children tree me (Commit c ts) = list_all (is_of_child tree me) ts
names_children tree me (Abort c ts) = list_all (is_of_child tree me) ts
names_children tree me _ = true

-- a record names no case, or one of the process's own, and no ticket but of its children
abbrev pub is_own_record : ProcessId → Option ProcessId → List TreeProcess → LogRecord → Bool
is_own_record me parent tree l =
    owns me parent tree l.parent (record_case l.entry) && names_children tree me l.entry

-- the bytes are a log with a record of a case that is not the process's own, or with a ticket of no child of
-- it
pub record NamesOthers (tree : List TreeProcess) (e : TreeProcess) (bytes : List ℕ) : Type 0 where
  pub forced : ℕ
  pub failures : ℕ
  pub log : LogState
  pub opens : OpensLog (form_by e) bytes forced failures log
  pub others : list_all (is_own_record e.id e.parent tree) (records_of log.sight.kept) ≡ false

-- where the bytes are a log, each of its records is at home: it names no case but the process's own, and no
-- ticket but of its children
pub record NamesOwn (tree : List TreeProcess) (e : TreeProcess) (bytes : List ℕ) : Type 0 where
  pub at_home : (ls : List LogRecord) (torn : ℕ) → read_log (form_by e) bytes ≡ Whole ls torn
      → list_all (is_own_record e.id e.parent tree) ls ≡ true

-- a log over a copy of the bytes, where they are one
abbrev pub CopyOpens : LogForm → List ℕ → Option LogState → Type 0
CopyOpens p bytes (Some log) = (forced : ℕ) × (failures : ℕ) × OpensLog p bytes forced failures log
CopyOpens p bytes None = (ls : List LogRecord) (torn : ℕ) → read_log p bytes ≡ Whole ls torn → ⊥

-- why it is not known that the bytes are the process's own log: they are not, or memory was refused
abbrev pub NotHome : List TreeProcess → TreeProcess → List ℕ → StartError → Type 0
NotHome tree e bytes Stranger = NamesOthers tree e bytes
NotHome tree e bytes (Reopen Memory) = ⊤
NotHome tree e bytes error = ⊥

-- a node that has told nothing yet, of the process that goes on over these bytes
pub record IsStart {L : Type 0} (tree : List TreeProcess) (e : TreeProcess) (bytes : List ℕ)
    (forced failures : ℕ)
    (s : Serving L) (opening : Reaction) : Type 0 where
  pub reopens : ReopensAs tree e bytes forced failures (core_of s.node) (data_of s.node) opening
  pub state : state_of s ≡ opened tree e.id s.node
  pub home : NamesOwn tree e bytes

-- why no node was started
abbrev pub NoStart : {L : Type 0} → (L → List ℕ) → (L → ℕ) → (L → ℕ) → List TreeProcess → TreeProcess → L
    → StartError → Type 0
NoStart bytes forced failures tree e store Stranger = NamesOthers tree e (bytes store)
NoStart bytes forced failures tree e store (Reopen error) =
    ProcessNotReopened bytes forced failures (form_by e) (place_by tree e) store error
