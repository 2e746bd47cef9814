-- What the code of a world keeps, as the definitions see it.
use Rattle.std.specs.Prelude.{Bool, true, false, List, map}
use Rattle.protocol.specs.declared.names.ProcessId.{ProcessId}
use Rattle.protocol.specs.declared.events.JournalEntry.{JournalEntry}
use Rattle.protocol.specs.declared.records.LogRecord.{LogRecord}
use Rattle.protocol.specs.declared.trees.TreeProcess.{TreeProcess}
use Rattle.protocol.specs.Trees.{IsTree}
use Rattle.tree_state.specs.Worlds.{WorldState}
use Rattle.proof_runs.specs.worlds.Modelled.{IsModelledTree}
use Rattle.tree_journal.specs.Journals.{JournalState}
use Rattle.tree_faults.specs.Faults.{FaultsSight}
use Rattle.tree_process.specs.declared.node.Process.{Process}
use Rattle.tree_world.specs.declared.running_tree.RunningTree.{RunningTree}
use Rattle.tree_world.specs.Nodes.{kept_at, log_by}
use Rattle.tree_faults.specs.Traces.{AreInPlace, KeepsTrace, trace_by}

-- what a contract sees of a tree that runs: the tree, its processes by name, the journal of their steps, the
-- steps in which a device failed, and whether it was opened over the logs that an earlier run left
pub record WorldValue (L : Type 0) : Type 0 where
  pub tree : List TreeProcess
  pub nodes : List (ProcessId × Process L)
  pub journal : JournalState
  pub faults : FaultsSight
  pub reopened : Bool

-- what the definitions see of it
abbrev pub state : {L : Type 0} → WorldValue L → WorldState
state w = record {
  tree = w.tree;
  node_at = (kept_at w.nodes).node_at;
  data_at = (kept_at w.nodes).data_at;
  net = w.journal.net;
  delivered = w.journal.delivered;
  entries = w.journal.entries;
}

-- what a contract sees of what the code keeps
abbrev pub value_by : {L : Type 0} → RunningTree L → Bool → WorldValue L
value_by w reopened =
    record {
      tree = w.tree;
      nodes = w.nodes.nodes.entries;
      journal = w.journal;
      faults = w.faults;
      reopened = reopened;
    }

-- what the definitions see of what the code keeps
abbrev pub running_state : {L : Type 0} → RunningTree L → WorldState
running_state w = state (value_by w false)

-- every step, with those in which a device failed
abbrev pub trace : {L : Type 0} → WorldValue L → List JournalEntry
trace w = trace_by (state w) w.faults

-- what is kept of the state of a tree: where it was opened over empty logs it stands for a run; where it was
-- opened over those that an earlier run left, its processes are a tree
abbrev pub KeepsRun : Bool → WorldState → Type 0
KeepsRun false s = IsModelledTree s
KeepsRun true s = IsTree s.tree

-- what is kept of a tree with its faults
pub record KeepsWorld (reopened : Bool) (s : WorldState) (f : FaultsSight) : Type 0 where
  pub run : KeepsRun reopened s
  pub trace : KeepsTrace reopened s (trace_by s f)
  pub places : AreInPlace s f

-- the records of these processes
abbrev pub logs_at : WorldState → List TreeProcess → List (List LogRecord)
logs_at w tree = map (λ e. log_by (w.node_at e.id)) tree
