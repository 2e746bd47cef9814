-- By the second version a committed update costs what it costs by the first.
use Rattle.std.proofs.Common.{◌≡◌, ◌∙◌, ◌==◌, ◌++◌, ℕ, Bool, true, false, if◌then◌else◌, fold, Option, Some, None, List, [], ◌∷◌, refl, sym, ap, arith}
use Rattle.protocol.specs.declared.names.Outcome.{Outcome}
use Rattle.protocol.specs.declared.names.Outcome.TheVariants.{Committed}
use Rattle.protocol.specs.declared.names.Presumption.{Presumption}
use Rattle.protocol.specs.declared.names.Presumption.TheVariants.{PresumeAbort, PresumeCommit}
use Rattle.protocol.specs.declared.names.ProcessId.{ProcessId}
use Rattle.protocol.specs.declared.names.Ticket.{Ticket}
use Rattle.protocol.specs.declared.records.Write.{Write}
use Rattle.protocol.specs.declared.standings.Standing.{Standing}
use Rattle.protocol.specs.declared.standings.Standing.TheVariants.{Unknown, Active, Collecting, Prepared, Committing, Aborting, Heuristic}
use Rattle.protocol.specs.declared.standings.Vote.TheVariants.{Yes}
use Rattle.protocol.specs.Memory.{all_voted, is_counted, yes_of}
use Rattle.protocol.specs.Records.{in_list, none_of}
use Rattle.protocol.specs.Nodes.{First, Second, Version}
use Rattle.protocol.specs.Standings.{CoordinatorView, ManagerView, unknown_view}
use Rattle.protocol.specs.CoordinatorRows.{Row, Seat, active_commit_alone, active_commit_with, awaits, collecting_after, collecting_full, collecting_read_only, decided_ack_by, decides, on_ack, on_vote, other_tickets, quiet, root_commits}
use Rattle.protocol.specs.Counts.{Walked, acknowledging, asks, hears_yes, manager_price, walks}
use Rattle.protocol.specs.Counts
use Rattle.protocol.specs.ManagerRows.{Leaf}
use Rattle.proof_model.proofs.CostLaws.{committed_update_costs}
use Rattle.proof_costs.specs.Costs.{CommittedUpdateCostsBy, hears_ack, manager_cost}

-- Nothing is found that was not.

-- of two rows the one that a test picks leaves nothing found
pub either : (b : Bool) (r q : Row) → r.view.found ≡ [] → q.view.found ≡ []
    → (if b then r else q).view.found ≡ []
either true r q this that = this
either false r q this that = that

awaited : (st : Standing) (us : List Ticket) (v : CoordinatorView) → v.found ≡ []
    → (awaits st us v).found ≡ []
awaited st us v none = by_test (none_of us)
  where
    by_test : (b : Bool)
        → (if b then unknown_view else record v { standing = st; named = v.named ++ us; owed = us }).found
        ≡ []
    by_test true = refl
    by_test false = none

pub asked : (s : Seat) (v : CoordinatorView) (p : Presumption) → v.found ≡ []
    → (active_commit_with s v p).view.found ≡ []
asked s v PresumeAbort none = none
asked s v PresumeCommit none = none

root_decided : (s : Seat) (v : CoordinatorView) (ys : List Ticket) (p : Presumption) → v.found ≡ []
    → (root_commits s v ys p).view.found ≡ []
root_decided s v ys PresumeAbort none = awaited Committing ys v none
root_decided s v ys PresumeCommit none = refl

decided : (s : Seat) (v : CoordinatorView) (ys : List Ticket) (p : Option ProcessId) → v.found ≡ []
    → (decides s v ys p).view.found ≡ []
decided s v ys None none = root_decided s v ys s.own.txn.presumption none
decided s v ys (Some p) none = none

full : (s : Seat) (v : CoordinatorView) → v.found ≡ [] → (collecting_full s v).view.found ≡ []
full s v none = either (none_of (yes_of v.accepted v.votes)) (collecting_read_only s) _ refl
    (decided s v (yes_of v.accepted v.votes) s.parent none)

pub voted : (s : Seat) (t : Ticket) (v : CoordinatorView) (at : Standing) → v.found ≡ []
    → (on_vote s t Yes v at).view.found ≡ []
voted s t v Collecting none =
    let w : CoordinatorView = record v { votes = v.votes ++ (t, Yes) ∷ [] } in
    either (is_counted v.accepted v.votes t)
    (record (collecting_after s w Yes) { counts = (t, Yes) ∷ [] }) (quiet v)
    (either (all_voted w.accepted w.votes) (collecting_full s w) (quiet w) (full s w none) none) none
voted s t v Unknown none = none
voted s t v Active none = none
voted s t v Prepared none = none
voted s t v Committing none = none
voted s t v Aborting none = none
voted s t v Heuristic none = none

all_heard : (s : Seat) (w : Walked) (votes : List Ticket) → w.view.found ≡ []
    → (fold (hears_yes s) w votes).view.found ≡ []
all_heard s w [] none = none
all_heard s w (t ∷ votes) none =
    all_heard s (hears_yes s w t) votes (voted s t w.view w.view.standing none)

-- An acknowledgement.

-- by both versions the root does the same with an acknowledgement that finds nothing
acked_by : (s : Seat) (left : List Ticket) (v : CoordinatorView) → s.parent ≡ None
    → decided_ack_by Second s Committed left [] v ≡ decided_ack_by First s Committed left [] v
acked_by s left v at_root = λ i.
    decided_ack_by Second (record s { parent = at_root i }) Committed left [] v

pub acked : (s : Seat) (t : Ticket) (v : CoordinatorView) (at : Standing) → s.parent ≡ None
    → on_ack Second s t Committed [] v at ≡ on_ack First s t Committed [] v at
acked s t v Committing at_root =
    ap (λ (r : Row). if in_list v.owed t then r else quiet v) (acked_by s (other_tickets t v.owed) v at_root)
acked s t v Unknown at_root = refl
acked s t v Active at_root = refl
acked s t v Collecting at_root = refl
acked s t v Prepared at_root = refl
acked s t v Aborting at_root = refl
acked s t v Heuristic at_root = refl

found_by : (s : Seat) (left : List Ticket) (v : CoordinatorView)
    → (decided_ack_by First s Committed left [] v).view.found ≡ []
found_by s left v = either (none_of left) _ (quiet (record v { owed = left; found = [] })) refl refl

found_none : (s : Seat) (t : Ticket) (v : CoordinatorView) (at : Standing) → v.found ≡ []
    → (on_ack First s t Committed [] v at).view.found ≡ []
found_none s t v Committing none = either (in_list v.owed t)
    (decided_ack_by First s Committed (other_tickets t v.owed) [] v) (quiet v)
    (found_by s (other_tickets t v.owed) v) none
found_none s t v Unknown none = none
found_none s t v Active none = none
found_none s t v Collecting none = none
found_none s t v Prepared none = none
found_none s t v Aborting none = none
found_none s t v Heuristic none = none

heard : (s : Seat) (w : Walked) (t : Ticket) → s.parent ≡ None → w.view.found ≡ []
    → hears_ack Second s w t ≡ Counts.hears_ack s w t
heard s w t at_root none =
    ap (λ fs. walks w (on_ack Second s t Committed fs w.view w.view.standing)) none
    ∙ ap (walks w) (acked s t w.view w.view.standing at_root)
    ∙ ap (λ fs. walks w (on_ack First s t Committed fs w.view w.view.standing)) (sym none)

pub found_then : (s : Seat) (w : Walked) (t : Ticket) → w.view.found ≡ []
    → (Counts.hears_ack s w t).view.found ≡ []
found_then s w t none =
    ap (λ fs. (on_ack First s t Committed fs w.view w.view.standing).view.found) none
    ∙ found_none s t w.view w.view.standing none

all_acked : (s : Seat) (w : Walked) (acks : List Ticket) → s.parent ≡ None → w.view.found ≡ []
    → fold (hears_ack Second s) w acks ≡ fold (Counts.hears_ack s) w acks
all_acked s w [] at_root none = refl
all_acked s w (t ∷ acks) at_root none =
    ap (λ (x : Walked). fold (hears_ack Second s) x acks) (heard s w t at_root none)
    ∙ all_acked s (Counts.hears_ack s w t) acks at_root (found_then s w t none)

-- A manager.

same_number : (n : ℕ) → (n == n) ≡ true
same_number n = grind arith

alike : (l : Leaf) (n : ℕ) (ws : List Write) (told : Option Outcome)
    → let v : ManagerView = record { standing = Active; done = n; spoiled = false; told = told } in
    manager_cost Second l n ws v ≡ Counts.manager_cost l n ws v
alike l n ws told = rw (same_number n) refl

managed : (ver : Version) (l : Leaf) (n : ℕ) (ws : List Write) (v : ManagerView) → v.standing ≡ Active
    → v.done ≡ n
    → v.spoiled ≡ false → manager_cost ver l n ws v ≡ Counts.manager_cost l n ws v
managed First l n ws v active done sound = refl
managed Second l n ws v active done sound =
    let stands : v ≡ record { standing = Active; done = n; spoiled = false; told = v.told } =
    rw (sym active, sym done, sym sound) refl in
    ap (λ x. manager_cost Second l n ws x) stands ∙ alike l n ws v.told
    ∙ sym (ap (λ x. Counts.manager_cost l n ws x) stands)

-- by each version the costs are the same
pub costs_by : (ver : Version) (s : Seat) → CommittedUpdateCostsBy ver s
costs_by First s =
    let costs = committed_update_costs s in
    record {
      root = λ at_root v active none nothing takes votes acks is is'.
          costs.root at_root v active none takes votes acks is is';
      manager = costs.manager;
    }
costs_by Second s =
    let costs = committed_update_costs s in
    record {
      root = λ at_root v active none nothing takes votes acks is is'.
          all_acked s (fold (hears_yes s) (asks s v) votes) (acknowledging s.own.txn.presumption acks) at_root
          (all_heard s (asks s v) votes (either (none_of v.accepted) (active_commit_alone s) _ refl
          (asked s v s.own.txn.presumption nothing)))
          ∙ costs.root at_root v active none takes votes acks is is';
      manager = λ l n ws v active done sound. managed Second l n ws v active done sound
          ∙ costs.manager l n ws v active done sound;
    }
