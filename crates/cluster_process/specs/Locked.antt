-- What lies under locks.
use Rattle.std.specs.Prelude.{◌≡◌, ℕ, Some, List}
use Rattle.protocol.specs.declared.names.ProcessId.{ProcessId}
use Rattle.protocol.specs.declared.events.JournalEntry.{JournalEntry}
use Rattle.protocol.specs.declared.records.LogRecord.{LogRecord}
use Rattle.protocol.specs.declared.trees.TreeProcess.{TreeProcess}
use Rattle.protocol.specs.Nodes.{Node}
use Rattle.protocol.specs.World.{entries_of}
use Rattle.log_records.specs.Sights.{records_of}
use Rattle.process_state.specs.States.{CoreState}
use Rattle.log_store.specs.declared.memory.MemoryStore.{MemoryStore}
use Rattle.resource_manager.specs.Data.{ManagerData}
use Rattle.cluster_journal.specs.Marks.{claimed_to, first_open, marked}
use Rattle.cluster_journal.specs.declared.marks.Delivery.TheVariants.{Claimed}
use Rattle.cluster_journal.specs.declared.marks.MarkedMessage.{MarkedMessage}
use Rattle.proof_cuts.specs.Alone.{RunsAlone}
use Rattle.tree_state.specs.Cuts.{IsCut}
use Rattle.proof_cuts.specs.Owns.{OwnRun}
use Rattle.tree_process.specs.declared.node.Process.{Process}

-- the journal is cut by process: it is a run
pub record HasCut (tree : List TreeProcess) (xs : List JournalEntry) : Type 0 where
  pub left : ProcessId → Node
  pub cut : IsCut tree xs left

-- a process under its lock: its name, its entries, and the process itself
pub record SeatedState : Type 0 where
  pub me : ProcessId
  pub own : List JournalEntry
  pub node : Process MemoryStore

-- the log is that of the process, as it is once it has made just the journal's entries of it, with its data
pub record LeavesLog (tree : List TreeProcess) (xs : List JournalEntry) (q : ProcessId)
    (log : List LogRecord) : Type 0 where
  pub core : CoreState
  pub held : ManagerData
  pub own : OwnRun tree q (entries_of q xs) core
  pub alone : RunsAlone tree q (entries_of q xs) core held
  pub log_is : log ≡ records_of core.log.kept

-- This message to this process is claimed, which leaves these marks: it was the first open one to it, and
-- nobody delivered another.
pub record IsClaimed (to : ProcessId) (number : ℕ) (marks : List MarkedMessage) : Type 0 where
  pub before : List MarkedMessage
  pub first : first_open to 1 before ≡ Some number
  pub alone : claimed_to to before ≡ 0
  pub marks_are : marks ≡ marked before number Claimed
