-- What a committed update costs by each version of the reaction table.
use Rattle.std.specs.Prelude.{◌≡◌, ℕ, false, None, List, [], fold, length}
use Rattle.protocol.specs.declared.names.Outcome.TheVariants.{Committed}
use Rattle.protocol.specs.declared.names.Ticket.{Ticket}
use Rattle.protocol.specs.declared.records.Write.{Write}
use Rattle.protocol.specs.declared.standings.Standing.TheVariants.{Active}
use Rattle.protocol.specs.Records.{none_of}
use Rattle.protocol.specs.Nodes.{Holds, Version}
use Rattle.protocol.specs.Standings.{CoordinatorView, ManagerView, unknown_view}
use Rattle.protocol.specs.CoordinatorRows.{Seat, on_ack}
use Rattle.protocol.specs.Counts.{Cost, IsOrderOf, Walked, acknowledging, asks, hears_yes, leaf_cost, manager_price, root_price, together, walks}
use Rattle.protocol.specs.ManagerRows.{Leaf}
use Rattle.protocol.specs.ManagerRows

-- the acknowledgement of a child comes, which finds nothing
abbrev pub hears_ack : Version → Seat → Walked → Ticket → Walked
hears_ack ver s w t = walks w (on_ack ver s t Committed w.view.found w.view w.view.standing)

-- the root from the commit act on: each of its children votes YES, in one order, and acknowledges, in another
abbrev pub root_walk : Version → Seat → CoordinatorView → List Ticket → List Ticket → Walked
root_walk ver s v votes acks =
    fold (hears_ack ver s) (fold (hears_yes s) (asks s v) votes) (acknowledging s.own.txn.presumption acks)

-- a manager that wrote: PREPARE, after all its works, and COMMIT
abbrev pub manager_cost : Version → Leaf → ℕ → List Write → ManagerView → Cost
manager_cost ver l n ws v =
    let promise = ManagerRows.on_prepare l n (Holds ws) v v.standing in
    let outcome = ManagerRows.on_commit ver l [] promise.view promise.view.standing in
    together (leaf_cost promise) (leaf_cost outcome)

-- A committed update of a flat tree, of which nothing was found that contradicts it, costs the root and each
-- manager by this version what it costs by the first one; and at the end neither knows of the case.
pub record CommittedUpdateCostsBy (ver : Version) (s : Seat) : Type 0 where
  pub root : s.parent ≡ None → (v : CoordinatorView) → v.standing ≡ Active → v.votes ≡ [] → v.found ≡ []
      → none_of v.accepted ≡ false
      → (votes acks : List Ticket) → IsOrderOf votes v.accepted → IsOrderOf acks v.accepted
      → root_walk ver s v votes acks ≡ record {
        cost = root_price s.own.txn.presumption (length v.accepted);
        view = unknown_view;
      }
  pub manager : (l : Leaf) (n : ℕ) (ws : List Write) (v : ManagerView) → v.standing ≡ Active
      → v.done ≡ n → v.spoiled ≡ false
      → manager_cost ver l n ws v ≡ manager_price l.own.txn.presumption
