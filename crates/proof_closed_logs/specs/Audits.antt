-- The audit of the logs that a closed cluster leaves.
use Rattle.std.specs.Prelude.{◌≡◌, ℕ, List, [], ◌∷◌}
use Rattle.protocol.specs.declared.events.JournalEntry.{JournalEntry}
use Rattle.protocol.specs.declared.records.LogRecord.{LogRecord}
use Rattle.protocol.specs.declared.trees.TreeProcess.{TreeProcess}
use Rattle.protocol.specs.Trees.{IsTree}
use Rattle.log_rules.specs.order.Logs.{Whole, read_as}
use Rattle.log_script.specs.declared.line.ProcessLog.{ProcessLog}
use Rattle.log_script.specs.Logs.{bytes_of}
use Rattle.proof_audits.specs.Audits.{AreAuditedTruly}
use Rattle.cluster_tree.specs.Closing.{IsClosed}

-- the bytes read as this log of the process; after them may stand a torn tail
pub record IsReadAs (e : TreeProcess) (bytes : List ℕ) (log : List LogRecord) : Type 0 where
  pub torn : ℕ
  pub read : read_as e.id e.kind bytes ≡ Whole log torn

-- the bytes of each of these processes read as the log at its place
abbrev pub AreReadAs : List ProcessLog → List TreeProcess → List (List LogRecord) → Type 0
AreReadAs texts [] [] = Unit {0}
AreReadAs texts [] (l ∷ ls) = ⊥
AreReadAs texts (e ∷ es) [] = ⊥
AreReadAs texts (e ∷ es) (l ∷ ls) = IsReadAs e (bytes_of texts e.id) l × AreReadAs texts es ls

-- The audit of texts that read as the logs of a closed cluster is true of the run that its journal is.
abbrev pub ClosedClustersAreAuditedTruly : Type 0
ClosedClustersAreAuditedTruly = (tree : List TreeProcess) → IsTree tree → (journal : List (ℕ × JournalEntry))
    (logs : List (List LogRecord)) → (c : IsClosed tree journal logs) → (texts : List ProcessLog)
    → AreReadAs texts tree logs → AreAuditedTruly tree c.modelled.world texts
