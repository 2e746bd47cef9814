-- What a row makes of a subordinate, as any process is seen.
use Rattle.std.proofs.Common.{◌≡◌, false, Option, Some, None, ap, refl}
use Rattle.xa_xid.specs.declared.xid.Xid.{Xid}
use Rattle.xa_branch.specs.declared.decision.Decision.{Decision}
use Rattle.protocol.specs.declared.names.Case.{Case}
use Rattle.protocol.specs.declared.events.Input.{Input}
use Rattle.protocol.specs.Names.{same_case}
use Rattle.protocol.specs.ManagerRows.{LeafRow}
use Rattle.protocol.specs.Reactions.{leaf_effect}
use Rattle.protocol.specs.Standings.{unknown_view}
use Rattle.protocol.specs.SameViews.{SameView}
use Rattle.process_state.specs.States.{SameCore, log_behind}
use Rattle.process_state.specs.Turns.{Handles}
use Rattle.process_state.specs.Makes.{retired_by}
use Rattle.resource_manager.specs.Sights.{ManagerSight, SameManager}
use Rattle.sub_branches.specs.declared.branch.LiveBranch.{LiveBranch}
use Rattle.sub_branches.specs.Tables.{BranchTable, branch_in, ticket_in, view_in}
use Rattle.sub_work.proofs.Kept.{same_kept}
use Rattle.sub_process.specs.Subordinates.{KeepsProcess, SubState, Turns, core_of, decided_at}
use Rattle.sub_work.specs.Replies.{shown}
use Rattle.sub_process.proofs.Ties.{KeepsDecided, behind}

pub no_view : SameView unknown_view unknown_view
no_view = record {
  standing = refl;
  accepted = refl;
  voted = λ o t. refl;
  worked = λ t. refl;
  promised = refl;
  named = λ t. refl;
  owed = λ t. refl;
  found = refl;
}

-- a manager's row was made
pub handled : (s : SubState) (t : BranchTable) (m : ManagerSight) (i : Input) (c : Case) (row : LeafRow)
    → m.log ≡ log_behind (core_of s) row.written
    → view_in t c ≡ row.view → ((d : Case) → same_case c d ≡ false → view_in t d ≡ view_in s.table d)
    → ((d : Case) → ticket_in t d ≡ retired_by i d (ticket_in s.table d)) → KeepsDecided s t m i
    → m.boot ≡ s.manager.boot
    → Turns s (behind s t m) i (Handles c row) (shown row.written row.messages)
handled s t m i c row log own others tickets decided boot = record {
  moves = record {
    log = log;
    own = own;
    others = others;
    views = λ d. no_view;
    begun = refl;
    given = refl;
    stays = record { place = refl; boot = boot; tickets = tickets; decided = decided };
  };
  effect = leaf_effect row;
  does = refl;
  shown = refl;
}

-- where the manager has what operators decided, it is what it was
pub same_decided : (s : SubState) (m : ManagerSight) → ((x : Xid) → m.decided x ≡ s.manager.decided x)
    → (o : Option LiveBranch) → decided_at m o ≡ decided_at s.manager o
same_decided s m h None = refl
same_decided s m h (Some b) = ap (λ (d : Decision). Some d.outcome) (h b.xid)

-- nothing changed but room
same_core : (s : SubState) (m : ManagerSight) → SameManager s.manager m
    → SameCore (core_of s) (core_of (behind s s.table m))
same_core s m stays = record {
  log = stays.log;
  rest = record {
    place = refl;
    boot = stays.boot;
    begun = refl;
    given = refl;
    tickets = λ d. refl;
    views = λ c. no_view;
    branches = λ c. refl;
    decided = λ c. same_decided s m stays.rest.decided (branch_in s.table c);
    spent = stays.spent;
  };
}

pub same_keeps : (s : SubState) (m : ManagerSight) → SameManager s.manager m
    → KeepsProcess s (behind s s.table m)
same_keeps s m stays = record { core = same_core s m stays; manager = same_kept s.manager m stays }
