-- A process that opens an empty log stands as its one record says.
use Rattle.std.proofs.Common.{◌≡◌, None, [], ◌∷◌, refl}
use Rattle.protocol.specs.declared.names.Case.{Case}
use Rattle.protocol.specs.declared.records.Record.TheVariants.{Opened}
use Rattle.protocol.specs.Nodes.{AtLeaf, AtRoot, Below, Place, Role}
use Rattle.protocol.specs.Records.{boot_of, decision_of, has, none_of, owing_by}
use Rattle.protocol.specs.Standings.{mark_of, unknown_branch, unknown_view}
use Rattle.protocol.specs.Restarts.{recorded_branch, recorded_view}
use Rattle.protocol.specs.SameViews.{SameView}
use Rattle.process_state.specs.Laws.{opened_core}
use Rattle.process_state.specs.Restarting.{ReadOff, recorded_branch_at, recorded_view_at}
use Rattle.process_state.proofs.Alike.{same_view}

nothing_seen : (c : Case) → recorded_view (Opened 1 ∷ []) c ≡ unknown_view
unfolding recorded_view has none_of owing_by
nothing_seen c = refl

no_branch : (c : Case) → recorded_branch (Opened 1 ∷ []) c ≡ unknown_branch
unfolding recorded_branch mark_of
no_branch c = refl

no_decision : (c : Case) → None ≡ decision_of (Opened 1 ∷ []) c
unfolding decision_of
no_decision c = refl

view_at : (role : Role) (c : Case) → SameView unknown_view (recorded_view_at role (Opened 1 ∷ []) c)
view_at AtRoot c = rw (nothing_seen c) (same_view unknown_view)
view_at (Below p) c = rw (nothing_seen c) (same_view unknown_view)
view_at (AtLeaf p) c = same_view unknown_view

branch_at : (role : Role) (c : Case) → unknown_branch ≡ recorded_branch_at role (Opened 1 ∷ []) c
branch_at AtRoot c = refl
branch_at (Below p) c = refl
branch_at (AtLeaf p) c = rw (no_branch c) refl

pub opened_is_read : (place : Place) → ReadOff (opened_core place) (Opened 1 ∷ [])
unfolding boot_of
opened_is_read place =
    record {
      boot = refl;
      begun = refl;
      given = refl;
      tickets = λ d. refl;
      views = view_at place.role;
      branches = branch_at place.role;
      decided = λ c h. no_decision c;
    }
