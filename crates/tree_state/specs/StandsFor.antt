-- When what a process keeps stands for a process of the model, which keeps lists and reads everything off
-- them.
use Rattle.std.specs.Prelude.{◌≡◌, true, false}
use Rattle.protocol.specs.declared.names.Case.{Case}
use Rattle.protocol.specs.declared.names.Ticket.{Ticket}
use Rattle.protocol.specs.declared.names.Txn.{Txn}
use Rattle.protocol.specs.declared.standings.Standing.TheVariants.{Heuristic}
use Rattle.protocol.specs.Records.{boot_of, decision_of, has_case}
use Rattle.protocol.specs.Nodes.{Role, AtLeaf, Node, Place, kept}
use Rattle.protocol.specs.Memory.{active_ticket, memory_of}
use Rattle.protocol.specs.Standings.{CoordinatorView, ManagerView, belongs, coordinator_view, manager_view, own_cases, unknown_branch, unknown_view}
use Rattle.protocol.specs.Restarts.{is_known}
use Rattle.protocol.specs.SameViews.{SameView}
use Rattle.process_state.specs.States.{CoreState, logged}

-- how a case is at a coordinator, read off its lists; a manager has no such views
abbrev pub view_at : Role → Place → Node → Case → CoordinatorView
view_at (AtLeaf p) place n c = unknown_view
view_at _ place n c = coordinator_view place n c

-- how a case is at a manager, read off its lists; a coordinator has no branches
abbrev pub branch_at : Role → Place → Node → Case → ManagerView
branch_at (AtLeaf p) place n c = manager_view place n c
branch_at _ place n c = unknown_branch

-- what a process that is up keeps is what its lists read as
pub record StandsUp (n : Node) (s : CoreState) : Type 0 where
  pub boot : s.boot ≡ boot_of (kept n)
  pub begun : (c : Case) → s.begun ≡ (memory_of s.place n c).begun
  pub given : (c : Case) → s.given ≡ (memory_of s.place n c).given
  pub tickets : (d : Case) → s.ticket_for d ≡ active_ticket (memory_of s.place n d).active d
  pub views : (c : Case) → SameView (s.view_of c) (view_at s.place.role s.place n c)
  pub branches : (c : Case) → s.branch_of c ≡ branch_at s.place.role s.place n c
  pub decided : (c : Case) → (s.branch_of c).standing ≡ Heuristic → s.decided_of c ≡ decision_of (kept n) c

-- Its log holds the same records, under their whole names. Of a process whose device failed nothing else is
-- said.
pub record StandsFor (n : Node) (s : CoreState) : Type 0 where
  pub forced : s.log.kept.forced ≡ logged s n.forced
  pub unforced : s.log.kept.unforced ≡ logged s n.unforced
  pub failed : s.log.failed ≡ n.failed
  pub up : n.failed ≡ false → StandsUp n s

-- Whose case a child is of is the same by lists and by live cases: a live case is one of those in which a
-- child is looked for, and of these a child's ticket belongs to one at most.
pub record ChildrenFit (place : Place) (n : Node) : Type 0 where
  pub listed : (c : Case) → is_known (coordinator_view place n c).standing ≡ true
      → has_case (own_cases place.role place n c.txn) c ≡ true
  pub one : (x : Txn) (t : Ticket) (c d : Case)
      → has_case (own_cases place.role place n x) c ≡ true → belongs (memory_of place n c) (kept n) c t ≡ true
      → has_case (own_cases place.role place n x) d ≡ true → belongs (memory_of place n d) (kept n) d t ≡ true
      → c ≡ d
