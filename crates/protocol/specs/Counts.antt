-- What a committed update costs: records, forced records and messages (R*, table of costs).
use Rattle.std.specs.Prelude.{◌≡◌, ◌+◌, ◌*◌, ℕ, Bool, true, false, not, ◌&&◌, None, List, [], ◌∷◌, fold, length, count_by}
use Rattle.std.specs.List.{list_all}
use Rattle.protocol.specs.declared.names.Presumption.{Presumption}
use Rattle.protocol.specs.declared.names.Presumption.TheVariants.{PresumeAbort, PresumeCommit}
use Rattle.protocol.specs.declared.names.Outcome.TheVariants.{Committed}
use Rattle.protocol.specs.declared.names.Ticket.{Ticket}
use Rattle.protocol.specs.declared.messages.Envelope.{Envelope}
use Rattle.protocol.specs.declared.records.Write.{Write}
use Rattle.protocol.specs.declared.standings.Standing.TheVariants.{Active as ActiveStanding}
use Rattle.protocol.specs.declared.standings.Vote.TheVariants.{Yes as VoteYes}
use Rattle.protocol.specs.Records.{in_list, none_of}
use Rattle.protocol.specs.Nodes.{Written, Holds}
use Rattle.protocol.specs.Standings.{CoordinatorView, ManagerView, unknown_view}
use Rattle.protocol.specs.Nodes.{First}
use Rattle.protocol.specs.CoordinatorRows.{Seat, Row, active_commit, on_vote, on_ack}
use Rattle.protocol.specs.ManagerRows.{Leaf, LeafRow}
use Rattle.protocol.specs.ManagerRows

-- records, forced ones among them, and messages
pub record Cost : Type 0 where
  pub records : ℕ
  pub forced : ℕ
  pub messages : ℕ

-- the cost of these records and messages
abbrev pub cost_of : List Written → List Envelope → Cost
cost_of ws ls = record { records = length ws; forced = count_by (λ w. w.is_forced) ws; messages = length ls }

-- two costs, added
abbrev pub together : Cost → Cost → Cost
together a b = record {
  records = a.records + b.records;
  forced = a.forced + b.forced;
  messages = a.messages + b.messages;
}

-- the cost of a coordinator's row
abbrev pub row_cost : Row → Cost
row_cost r = cost_of r.written r.messages

-- the cost of a manager's row
abbrev pub leaf_cost : LeafRow → Cost
leaf_cost r = cost_of r.written r.messages

-- The root, walked through its table.

-- what a case has cost, and the view that it has come to
pub record Walked : Type 0 where
  pub cost : Cost
  pub view : CoordinatorView

-- one row more
abbrev pub walks : Walked → Row → Walked
walks w r = record { cost = together w.cost (row_cost r); view = r.view }

-- the commit act, from a view in which nothing was paid yet
abbrev pub asks : Seat → CoordinatorView → Walked
asks s v = record { cost = row_cost (active_commit s v); view = (active_commit s v).view }

-- the vote YES of a child comes
abbrev pub hears_yes : Seat → Walked → Ticket → Walked
hears_yes s w t = walks w (on_vote s t VoteYes w.view w.view.standing)

-- the acknowledgement of a child comes, which finds nothing
abbrev pub hears_ack : Seat → Walked → Ticket → Walked
hears_ack s w t = walks w (on_ack First s t Committed w.view.found w.view w.view.standing)

-- the children that acknowledge a commit: under Presumed Commit none does
abbrev pub acknowledging : Presumption → List Ticket → List Ticket
acknowledging PresumeAbort ts = ts
acknowledging PresumeCommit ts = []

-- the root from the commit act on: each of its children votes YES, in one order, and acknowledges, in another
abbrev pub root_walk : Seat → CoordinatorView → List Ticket → List Ticket → Walked
root_walk s v votes acks =
    fold (hears_ack s) (fold (hears_yes s) (asks s v) votes) (acknowledging s.own.txn.presumption acks)

-- A manager that wrote, walked through its table.

-- PREPARE, after all its works, and COMMIT
abbrev pub manager_cost : Leaf → ℕ → List Write → ManagerView → Cost
manager_cost l n ws v =
    let promise = ManagerRows.on_prepare l n (Holds ws) v v.standing in
    let outcome = ManagerRows.on_commit First l [] promise.view promise.view.standing in
    together (leaf_cost promise) (leaf_cost outcome)

-- a list has no ticket twice
unfoldable pub are_distinct : List Ticket → Bool
are_distinct [] = true
are_distinct (t ∷ ts) = not (in_list ts t) && are_distinct ts

-- the tickets of the one list are those of the other, each once
pub record IsOrderOf (order tickets : List Ticket) : Type 0 where
  pub distinct : are_distinct order ≡ true
  pub among : list_all (in_list tickets) order ≡ true
  pub all : list_all (in_list order) tickets ≡ true

-- what a committed update of n children costs the root
abbrev pub root_price : Presumption → ℕ → Cost
root_price PresumeAbort n = record { records = 2; forced = 1; messages = 2 * n }
root_price PresumeCommit n = record { records = 2; forced = 2; messages = 2 * n }

-- what a committed update costs a manager that wrote
abbrev pub manager_price : Presumption → Cost
manager_price PresumeAbort = record { records = 2; forced = 2; messages = 2 }
manager_price PresumeCommit = record { records = 2; forced = 1; messages = 1 }

-- A committed update of a flat tree of n managers: the root writes 2 records, 1 forced under Presumed Abort
-- and 2 under Presumed Commit, and sends 2 messages to each child, in whatever order the votes and the
-- acknowledgements come; a child writes 2 records, 2 or 1 forced, and sends 2 or 1 messages. At the end
-- neither knows of the case.
pub record CommittedUpdateCosts (s : Seat) : Type 0 where
  pub root : s.parent ≡ None → (v : CoordinatorView) → v.standing ≡ ActiveStanding → v.votes ≡ []
      → none_of v.accepted ≡ false
      → (votes acks : List Ticket) → IsOrderOf votes v.accepted → IsOrderOf acks v.accepted
      → root_walk s v votes acks ≡ record {
        cost = root_price s.own.txn.presumption (length v.accepted);
        view = unknown_view;
      }
  pub manager : (l : Leaf) (n : ℕ) (ws : List Write) (v : ManagerView) → v.standing ≡ ActiveStanding
      → v.done ≡ n → v.spoiled ≡ false
      → manager_cost l n ws v ≡ manager_price l.own.txn.presumption
