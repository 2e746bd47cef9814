-- What a crash leaves of a process's own log is fit, while numbers are left.
use Rattle.std.specs.Prelude.{◌≡◌, ◌≤◌, ◌+◌, ◌^◌, ◌⊎◌, ℕ, Some, List, [], find, map}
use Rattle.protocol.specs.declared.names.Kind.{Kind}
use Rattle.protocol.specs.declared.names.Kind.TheVariants.{Coordinator, Manager}
use Rattle.protocol.specs.declared.records.LogRecord.{LogRecord}
use Rattle.protocol.specs.declared.trees.TreeProcess.{TreeProcess}
use Rattle.protocol.specs.Names.{same_process}
use Rattle.protocol.specs.Records.{boot_of}
use Rattle.protocol.specs.Trees.{IsTree}
use Rattle.protocol.specs.World.{Made, World}
use Rattle.log_rules.specs.order.Logs.{Whole, read_log}
use Rattle.log_records.specs.Sights.{left_by}
use Rattle.kv_state.specs.Replays.{CountTooFar}
use Rattle.process_state.specs.States.{CoreState}
use Rattle.tree_state.specs.Worlds.{WorldState}
use Rattle.proof_runs.specs.worlds.Follows.{FollowsBehindFaults}
use Rattle.tree_process.specs.declared.reopening.ProcessReopenError.TheVariants.{Unfit}
use Rattle.tree_process.specs.Nodes.{LogStands}
use Rattle.tree_process.specs.Reopenings.{ProcessNotReopened, form_by, place_by}

-- no boot below 2^63 comes after the last one of these records
abbrev pub HaveNoBoot : List LogRecord → Type 0
HaveNoBoot ls = 2 ^ 63 ≤ boot_of (map (λ l. l.entry) ls) + 1

-- Numbers are used up after these records: no boot is left, or a manager's data count 2^63 commits.
abbrev pub AreUsedUp : Kind → List LogRecord → Type 0
AreUsedUp Coordinator ls = HaveNoBoot ls
AreUsedUp Manager ls = HaveNoBoot ls ⊎ CountTooFar ls

module _ {L : Type 0} (bytes : L → List ℕ) (forced failures : L → ℕ) where
  -- Where the state of a tree stands for a run, and these bytes read as what a crash leaves of the log of one
  -- of its processes, they are called unfit for no other reason.
  abbrev pub OwnLogsAreFit : Type 0
  OwnLogsAreFit = (s : WorldState) (es : List Made) (w : World) → IsTree s.tree → FollowsBehindFaults es w s
      → (e : TreeProcess) → find (λ x. same_process x.id e.id) s.tree ≡ Some e → (c : CoreState)
      → s.node_at e.id ≡ Some c → LogStands c → (keep torn : ℕ) (store : L)
      → read_log (form_by e) (bytes store) ≡ Whole (left_by c.log keep) torn
      → ProcessNotReopened bytes forced failures (form_by e) (place_by s.tree e) store Unfit
      → AreUsedUp (form_by e).kind (left_by c.log keep)

  -- nor are those that hold no record, in any tree
  abbrev pub NewLogsAreFit : Type 0
  NewLogsAreFit = (tree : List TreeProcess) (e : TreeProcess) (store : L) (torn : ℕ)
      → read_log (form_by e) (bytes store) ≡ Whole [] torn
      → ProcessNotReopened bytes forced failures (form_by e) (place_by tree e) store Unfit
      → AreUsedUp (form_by e).kind []
