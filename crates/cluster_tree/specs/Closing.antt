-- What a cluster leaves that is closed.
use Rattle.std.specs.Prelude.{◌≡◌, ℕ, All, Option, Some, None, List, [], ◌∷◌, map}
use Rattle.protocol.specs.declared.events.JournalEntry.{JournalEntry}
use Rattle.protocol.specs.declared.events.Event.{Event}
use Rattle.protocol.specs.declared.records.LogRecord.{LogRecord}
use Rattle.protocol.specs.declared.trees.TreeProcess.{TreeProcess}
use Rattle.log_records.specs.Sights.{records_of}
use Rattle.process_state.specs.States.{CoreState}
use Rattle.tree_state.specs.Runs.{IsOpenedTree}
use Rattle.proof_runs.specs.worlds.Follows.{IsModelled}
use Rattle.tree_state.specs.Worlds.{WorldState}
use Rattle.proof_cuts.specs.Alone.{AskForAll, EventsLeadOn}
use Rattle.proof_cuts.specs.Owns.{CutHolds}
use Rattle.cluster_ties.specs.Views.{entries_in, pairs_by}
use Rattle.cluster_process.specs.Locked.{LeavesLog}
use Rattle.cluster_process.specs.Passes.{PassState}

-- for each of these processes, in order, one log
abbrev pub LeaveLogs : List TreeProcess → List JournalEntry → List TreeProcess → List (List LogRecord)
    → Type 0
LeaveLogs tree xs [] [] = Unit {0}
LeaveLogs tree xs [] (l ∷ ls) = ⊥
LeaveLogs tree xs (e ∷ es) [] = ⊥
LeaveLogs tree xs (e ∷ es) (l ∷ ls) = LeavesLog tree xs e.id l × LeaveLogs tree xs es ls

-- the records of a process's log; none, if there is no such process
abbrev pub log_by : Option CoreState → List LogRecord
log_by None = []
log_by (Some s) = records_of s.log.kept

-- the logs of a tree's processes, in its order
abbrev pub logs_in : WorldState → List TreeProcess → List (List LogRecord)
logs_in s tree = map (λ e. log_by (s.node_at e.id)) tree

-- Of a closed cluster: the journal is a run, of which the headline holds, and the logs are those of a state
-- that stands for a run with this journal. A tree on one thread that has opened comes to that state by the
-- events of the journal, and makes just these entries.
pub record IsClosed (tree : List TreeProcess) (journal : List (ℕ × JournalEntry))
    (logs : List (List LogRecord)) : Type 0 where
  pub run : CutHolds tree (entries_in journal)
  pub start : WorldState
  pub state : WorldState
  pub events : List Event
  pub opens : IsOpenedTree start tree
  pub ask : AskForAll (entries_in journal) events
  pub leads : EventsLeadOn start events state
  pub tree_is : state.tree ≡ tree
  pub entries_are : state.entries ≡ entries_in journal
  pub modelled : IsModelled state
  pub logs_are : logs ≡ logs_in state tree

-- the pass's pairs are just those of the journal's entries under its caller's number, with their places
abbrev pub IsMet : List (ℕ × JournalEntry) → PassState → Type 0
IsMet journal p = p.pairs ≡ pairs_by p.caller 0 journal

-- so it is of each of these passes
abbrev pub AreMet : List (ℕ × JournalEntry) → List PassState → Type 0
AreMet journal passes = All (IsMet journal) passes
