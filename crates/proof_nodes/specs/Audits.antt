-- The audit of the files that the nodes of a tree leave.
use Rattle.std.specs.Prelude.{◌≡◌, ◌-◌, ℕ, Some, List, find, length}
use Rattle.protocol.specs.declared.trees.TreeProcess.{TreeProcess}
use Rattle.protocol.specs.Names.{same_process}
use Rattle.protocol.specs.Trees.{IsTree}
use Rattle.log_records.specs.Sights.{left_by, records_of}
use Rattle.log_script.specs.declared.line.ProcessLog.{ProcessLog}
use Rattle.log_script.specs.Logs.{bytes_of}
use Rattle.process_state.specs.States.{CoreState}
use Rattle.proof_runs.specs.worlds.Modelled.{KeepsHeadline}
use Rattle.tree_state.specs.Runs.{IsOpenedTree}
use Rattle.tree_state.specs.Worlds.{WorldState}
use Rattle.proof_audits.specs.Audits.{AllWork, AreAuditedTruly}
use Rattle.proof_nodes.specs.Files.{FindsLog}
use Rattle.proof_nodes.specs.Nodes.{NodeSteps}

-- What was found in the file of this entry's process is all that it keeps, as after an end in order, which
-- forces all.
pub record IsFoundWhole (s : WorldState) (e : TreeProcess) (bytes : List ℕ) : Type 0 where
  pub process : CoreState
  pub there : s.node_at e.id ≡ Some process
  pub finds : FindsLog process bytes
  pub all : left_by process.log (length bytes - finds.forced) ≡ records_of process.log.kept

-- so it is of each process of the tree
abbrev pub AreFoundWhole : WorldState → List ProcessLog → Type 0
AreFoundWhole s logs = (e : TreeProcess) → find (λ x. same_process x.id e.id) s.tree ≡ Some e
    → IsFoundWhole s e (bytes_of logs e.id)

-- Whichever nodes of a tree end and start, the tree makes a run of which the headline holds; and where no
-- process is failed at last, and its file holds all that it keeps, the audit of the files is true of that
-- run.
abbrev pub NodesAreAuditedTruly : Type 0
NodesAreAuditedTruly = (tree : List TreeProcess) (s t : WorldState) → IsTree tree → IsOpenedTree s tree
    → NodeSteps s t
    → AllWork t → (k : KeepsHeadline t)
    × ((logs : List ProcessLog) → AreFoundWhole t logs → AreAuditedTruly t.tree k.run.world logs)
