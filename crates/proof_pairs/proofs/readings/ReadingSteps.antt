-- What a step at the child's process leaves of a reading.
use Rattle.std.proofs.Common.{◌≡◌, Bool, true, false, List, ◌++◌, arith}
use Rattle.protocol.specs.declared.names.Case.{Case}
use Rattle.protocol.specs.declared.names.ProcessId.{ProcessId}
use Rattle.protocol.specs.declared.names.Ticket.{Ticket}
use Rattle.protocol.specs.declared.names.Txn.{Txn}
use Rattle.protocol.specs.declared.trees.TreeProcess.{TreeProcess}
use Rattle.protocol.specs.Names.{same_process, child_case, process_of, root_case}
use Rattle.protocol.specs.Records.{has, is_commit}
use Rattle.protocol.specs.NameLaws.{same_process_tells}
use Rattle.protocol.specs.Nodes.{Node, AtRoot, AtLeaf, Below, place_of, role_of, is_leaf, Effect}
use Rattle.protocol.specs.World.{World}
use Rattle.protocol.specs.Outcomes.{is_commit_outcome}
use Rattle.proof_pairs.specs.readings.ReadingOf.{reading_of, reading_from, is_root_ticket, parent_half, child_half, wire}
use Rattle.proof_pairs.specs.readings.Steps.{made_at, IsLeafPair, IsCascadedPair, IsRootPair}

pub same_process-refl : (q : ProcessId) → same_process q q ≡ true
same_process-refl q = grind (arith, same_process_tells)

pub outcome_elsewhere : (w : World) (q : ProcessId) (n : Node) (e : Effect) (x : Txn)
    → same_process q x.root ≡ false
    → is_commit_outcome (made_at w q n e) x ≡ is_commit_outcome w x
unfolding is_commit_outcome
outcome_elsewhere w q n e x other = rw other

-- a step at the child moves its half and the net
pub at_child : (tree : List TreeProcess) (w : World) (above : Bool) (c : Case) (t : Ticket) (p : ProcessId)
    → IsLeafPair tree c t p → (n : Node) (e : Effect)
    → reading_of tree (made_at w t.child n e) above c t
    ≡ reading_from (is_root_ticket c.ticket) true (is_commit_outcome w c.txn) above
    (parent_half (place_of tree (process_of c)) (w.at (process_of c)) c t)
    (child_half (record { me = t.child; role = AtLeaf p; tree = tree }) n (child_case c.txn t))
    (wire c t (w.net ++ e.messages))
at_child tree w above c t p pair n e =
    rw (
      pair.leaf,
      outcome_elsewhere w t.child n e c.txn pair.root_elsewhere,
      pair.parent_elsewhere,
      same_process-refl t.child,
    )

-- the reading before it, in the same form
pub before : (tree : List TreeProcess) (w : World) (above : Bool) (c : Case) (t : Ticket) (p : ProcessId)
    → IsLeafPair tree c t p
    → reading_from (is_root_ticket c.ticket) true (is_commit_outcome w c.txn) above
    (parent_half (place_of tree (process_of c)) (w.at (process_of c)) c t)
    (child_half (record { me = t.child; role = AtLeaf p; tree = tree }) (w.at t.child)
    (child_case c.txn t))
    (wire c t w.net)
    ≡ reading_of tree w above c t
before tree w above c t p pair = rw (pair.leaf)

-- The pair's parent is a cascaded coordinator below this process: neither the child's process nor the root.
-- A step at it moves its half and the net.
pub at_cascaded : (tree : List TreeProcess) (w : World) (above : Bool) (c : Case) (t : Ticket)
    (p : ProcessId) → IsCascadedPair tree c t p → (n : Node) (e : Effect)
    → reading_of tree (made_at w (process_of c) n e) above c t
    ≡ reading_from false (is_leaf (role_of tree t.child)) (is_commit_outcome w c.txn) above
    (parent_half (record { me = process_of c; role = Below p; tree = tree }) n c t)
    (child_half (place_of tree t.child) (w.at t.child) (child_case c.txn t))
    (wire c t (w.net ++ e.messages))
at_cascaded tree w above c t p pair n e =
    rw (
      pair.cascaded,
      pair.below,
      outcome_elsewhere w (process_of c) n e c.txn pair.root_elsewhere,
      pair.child_elsewhere,
      same_process-refl (process_of c),
    )

pub before_cascaded : (tree : List TreeProcess) (w : World) (above : Bool) (c : Case) (t : Ticket)
    (p : ProcessId) → IsCascadedPair tree c t p
    → reading_from false (is_leaf (role_of tree t.child)) (is_commit_outcome w c.txn) above
    (parent_half (record { me = process_of c; role = Below p; tree = tree }) (w.at (process_of c)) c t)
    (child_half (place_of tree t.child) (w.at t.child) (child_case c.txn t))
    (wire c t w.net)
    ≡ reading_of tree w above c t
before_cascaded tree w above c t p pair = rw (pair.cascaded, pair.below)

-- The pair's parent is the root's case: a step at the root moves its half, the outcome and the net.

outcome_here : (w : World) (n : Node) (e : Effect) (x : Txn)
    → is_commit_outcome (made_at w x.root n e) x ≡ has (is_commit (root_case x)) n.durable
unfolding is_commit_outcome
outcome_here w n e x = rw (same_process-refl x.root)

pub at_root : (tree : List TreeProcess) (w : World) (above : Bool) (x : Txn) (t : Ticket)
    → IsRootPair tree x t → (n : Node) (e : Effect)
    → reading_of tree (made_at w x.root n e) above (root_case x) t
    ≡ reading_from true (is_leaf (role_of tree t.child)) (has (is_commit (root_case x)) n.durable) above
    (parent_half (record { me = x.root; role = AtRoot; tree = tree }) n (root_case x) t)
    (child_half (place_of tree t.child) (w.at t.child) (child_case x t))
    (wire (root_case x) t (w.net ++ e.messages))
at_root tree w above x t pair n e =
    rw (pair.root, outcome_here w n e x, pair.child_elsewhere, same_process-refl x.root)

pub before_root : (tree : List TreeProcess) (w : World) (above : Bool) (x : Txn) (t : Ticket)
    → IsRootPair tree x t
    → reading_from true (is_leaf (role_of tree t.child)) (is_commit_outcome w x) above
    (parent_half (record { me = x.root; role = AtRoot; tree = tree }) (w.at x.root) (root_case x) t)
    (child_half (place_of tree t.child) (w.at t.child) (child_case x t))
    (wire (root_case x) t w.net)
    ≡ reading_of tree w above (root_case x) t
before_root tree w above x t pair = rw (pair.root)
