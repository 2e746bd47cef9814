-- The transactions that a root has begun are those in its list of them; so a crash leaves them.
use Rattle.std.proofs.Common.{◌≡◌, ◌∙◌, List, sym, ap}
use Rattle.protocol.specs.declared.names.ProcessId.{ProcessId}
use Rattle.protocol.specs.declared.names.Txn.{Txn}
use Rattle.protocol.specs.declared.trees.TreeProcess.{TreeProcess}
use Rattle.protocol.specs.Names.{root_case}
use Rattle.protocol.specs.Nodes.{Node}
use Rattle.protocol.specs.Views.{root_place}
use Rattle.proof_processes.specs.WorldHolds.{has_begun}
use Rattle.proof_processes.proofs.RootBegins.{was_begun}
use Rattle.proof_processes.proofs.RootCases.{RootCases}
use Rattle.proof_processes.proofs.RootHistories.{among}
use Rattle.proof_processes.proofs.RootTraces.{BegunSo}
use Rattle.proof_steps.proofs.crashes.Reopened.{exactly}

listed : (me : ProcessId) (tree : List TreeProcess) (n : Node) → RootCases (root_place me tree) n
    → BegunSo me tree n
    → (x : Txn) → has_begun (root_place me tree) n x ≡ among x n.begun
listed me tree n cases h x =
    exactly (has_begun (root_place me tree) n x) (among x n.begun)
    (λ e. h.in_histories (root_case x) (was_begun me tree n cases h x e)) (h.known x)

-- where the list stays, so do the transactions begun
pub begun_stay : (me : ProcessId) (tree : List TreeProcess) (n n' : Node) → RootCases (root_place me tree) n
    → BegunSo me tree n → RootCases (root_place me tree) n' → BegunSo me tree n' → n'.begun ≡ n.begun
    → (x : Txn) → has_begun (root_place me tree) n' x ≡ has_begun (root_place me tree) n x
begun_stay me tree n n' cases h cases' h' same x =
    listed me tree n' cases' h' x ∙ (ap (among x) same ∙ sym (listed me tree n cases h x))
