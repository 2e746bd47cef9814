-- The audit of the logs that a tree leaves, in whose run devices may have failed.
use Rattle.std.specs.Prelude.{◌≡◌, ℕ, false, None, Some, List, find}
use Rattle.protocol.specs.declared.events.JournalEntry.{JournalEntry}
use Rattle.protocol.specs.declared.names.ProcessId.{ProcessId}
use Rattle.protocol.specs.declared.trees.TreeProcess.{TreeProcess}
use Rattle.protocol.specs.Names.{same_process}
use Rattle.protocol.specs.Trees.{IsTree}
use Rattle.protocol.specs.World.{Made, World}
use Rattle.log_rules.specs.order.Logs.{Whole, read_as}
use Rattle.log_records.specs.Sights.{records_of}
use Rattle.log_script.specs.declared.line.ProcessLog.{ProcessLog}
use Rattle.log_script.specs.Faults.{first_damage}
use Rattle.log_script.specs.Logs.{bytes_of}
use Rattle.process_state.specs.States.{CoreState}
use Rattle.proof_runs.specs.worlds.Follows.{FollowsBy}
use Rattle.tree_state.specs.Worlds.{WorldState}
use Rattle.audit_tree.specs.Reports.{kept_lists, lines_of}
use Rattle.audit_tree.specs.Truths.{AreTrue}

-- no process is failed: its device never failed, or it restarted since
abbrev pub AllWork : WorldState → Type 0
AllWork s = (q : ProcessId) (c : CoreState) → s.node_at q ≡ Some c → c.log.failed ≡ false

-- the bytes read as the records that the process of this entry keeps; after them may stand a torn tail
pub record IsReadSo (s : WorldState) (e : TreeProcess) (bytes : List ℕ) : Type 0 where
  pub process : CoreState
  pub there : s.node_at e.id ≡ Some process
  pub torn : ℕ
  pub read : read_as e.id e.kind bytes ≡ Whole (records_of process.log.kept) torn

-- so does the log of each process of the tree
abbrev pub AreReadSo : WorldState → List ProcessLog → Type 0
AreReadSo s logs = (e : TreeProcess) → find (λ x. same_process x.id e.id) s.tree ≡ Some e
    → IsReadSo s e (bytes_of logs e.id)

-- none of the logs is damaged, and each line of their audit is true in this world
pub record AreAuditedTruly (tree : List TreeProcess) (w : World) (logs : List ProcessLog) : Type 0 where
  pub undamaged : first_damage tree logs ≡ None
  pub lines : AreTrue w (lines_of tree (kept_lists tree logs))

-- Where the state of a tree stands for a run, whichever of its steps the journal shows, and no process is
-- failed now, the audit of logs that read as what the processes keep is true of that run.
abbrev pub StatesAreAuditedTruly : Type 0
StatesAreAuditedTruly = (journal : List Made → List JournalEntry) (s : WorldState)
    (es : List Made) (w : World)
    → IsTree s.tree → FollowsBy journal es w s → AllWork s → (logs : List ProcessLog) → AreReadSo s logs
    → AreAuditedTruly s.tree w logs
