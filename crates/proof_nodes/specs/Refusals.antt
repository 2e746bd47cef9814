-- Why a node may be refused the file that the one before it left; for nothing else it is refused.
use Rattle.std.specs.Prelude.{◌≡◌, ◌-◌, ⊤, ℕ, Some, List, [], find, length}
use Rattle.protocol.specs.declared.names.Kind.{Kind}
use Rattle.protocol.specs.declared.records.LogRecord.{LogRecord}
use Rattle.protocol.specs.declared.trees.TreeProcess.{TreeProcess}
use Rattle.protocol.specs.Names.{same_process}
use Rattle.protocol.specs.Trees.{IsTree}
use Rattle.protocol.specs.World.{Made, World}
use Rattle.log_rules.specs.order.Logs.{Whole, read_log}
use Rattle.log_records.specs.Sights.{left_by}
use Rattle.process_state.specs.States.{CoreState}
use Rattle.tree_state.specs.Worlds.{WorldState}
use Rattle.tree_state.specs.Runs.{IsOpenedTree}
use Rattle.proof_runs.specs.worlds.Follows.{FollowsBehindFaults}
use Rattle.proof_own_logs.specs.Fitting.{AreUsedUp}
use Rattle.tree_process.specs.declared.reopening.ProcessReopenError.TheVariants.{Device, Memory, Unfit}
use Rattle.tree_process.specs.Reopenings.{FailsOver, form_by}
use Rattle.node_engine.specs.declared.starting.StartError.{StartError}
use Rattle.node_engine.specs.declared.starting.StartError.TheVariants.{Reopen}
use Rattle.node_engine.specs.Starts.{NoStart}
use Rattle.proof_nodes.specs.Files.{FindsLog}
use Rattle.proof_nodes.specs.Nodes.{NodeSteps}

-- A start may fail so over the file of the process itself, in which these records stand: memory was refused,
-- the device failed, or numbers are used up. It is not damaged, of the first format, another process's, or
-- unfit otherwise.
abbrev pub MayFail : {L : Type 0} → (L → ℕ) → Kind → List LogRecord → L → StartError → Type 0
MayFail failures kind ls store (Reopen Memory) = ⊤
MayFail failures kind ls store (Reopen Device) = FailsOver failures store
MayFail failures kind ls store (Reopen Unfit) = AreUsedUp kind ls
MayFail failures kind ls store error = ⊥

module _ {L : Type 0} (bytes : L → List ℕ) (forced failures : L → ℕ) where
  -- The next node of a process, over what was found of the log that the one before it left, fails to start
  -- for no other reason.
  abbrev pub IsTakenUp : WorldState → TreeProcess → Type 0
  IsTakenUp s e = (c : CoreState) → s.node_at e.id ≡ Some c → (store : L) (h : FindsLog c (bytes store))
      → (error : StartError) → NoStart bytes forced failures s.tree e store error
      → MayFail failures (form_by e).kind (left_by c.log (length (bytes store) - h.forced)) store error

  -- Where the state of a tree stands for a run, each process's own file is taken up at its next start.
  abbrev pub OwnFilesAreTakenUp : Type 0
  OwnFilesAreTakenUp = (s : WorldState) (es : List Made) (w : World) → IsTree s.tree
      → FollowsBehindFaults es w s
      → (e : TreeProcess) → find (λ x. same_process x.id e.id) s.tree ≡ Some e → IsTakenUp s e

  -- Whichever nodes of a tree end and start, each process's own file is taken up at its next start.
  abbrev pub NodesAreNeverRefused : Type 0
  NodesAreNeverRefused = (tree : List TreeProcess) (s t : WorldState) → IsTree tree → IsOpenedTree s tree
      → NodeSteps s t
      → (e : TreeProcess) → find (λ x. same_process x.id e.id) t.tree ≡ Some e → IsTakenUp t e

  -- A file that holds no record, as one that was just made, is taken up at the first start: in no tree is it
  -- refused but for memory and a failed device.
  abbrev pub NewFilesAreTakenUp : Type 0
  NewFilesAreTakenUp = (tree : List TreeProcess) (e : TreeProcess) (store : L) (torn : ℕ)
      → read_log (form_by e) (bytes store) ≡ Whole [] torn → (error : StartError)
      → NoStart bytes forced failures tree e store error → MayFail failures (form_by e).kind [] store error
