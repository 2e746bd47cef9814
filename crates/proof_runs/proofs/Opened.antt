-- A process that opens an empty log stands for the model's process as it opens.
use Rattle.std.proofs.Common.{◌≡◌, None, refl}
use Rattle.protocol.specs.declared.names.Case.{Case}
use Rattle.protocol.specs.Records.{boot_of, has, none_of, owing_by}
use Rattle.protocol.specs.Nodes.{AtLeaf, AtRoot, Below, Place, Role, kept, opened_node}
use Rattle.protocol.specs.Memory.{active_ticket, memory_of}
use Rattle.protocol.specs.Standings.{coordinator_view, manager_view, mark_of, unknown_branch, unknown_view}
use Rattle.protocol.specs.SameViews.{SameView}
use Rattle.process_state.specs.Laws.{opened_core}
use Rattle.process_state.proofs.Alike.{same_view}
use Rattle.tree_state.specs.StandsFor.{StandsFor, branch_at, view_at}

no_ticket : (place : Place) (d : Case) → None ≡ active_ticket (memory_of place opened_node d).active d
unfolding memory_of active_ticket
no_ticket place d = refl

nothing_begun : (place : Place) (c : Case) → 0 ≡ (memory_of place opened_node c).begun
unfolding memory_of
nothing_begun place c = refl

nothing_given : (place : Place) (c : Case) → 0 ≡ (memory_of place opened_node c).given
unfolding memory_of
nothing_given place c = refl

unknown_case : (place : Place) (c : Case) → coordinator_view place opened_node c ≡ unknown_view
unfolding coordinator_view memory_of has none_of owing_by
unknown_case place c = refl

no_branch : (place : Place) (c : Case) → manager_view place opened_node c ≡ unknown_branch
unfolding manager_view memory_of mark_of
no_branch place c = refl

views_are : (role : Role) (place : Place) (c : Case)
    → SameView unknown_view (view_at role place opened_node c)
views_are AtRoot place c = rw (unknown_case place c) (same_view unknown_view)
views_are (Below p) place c = rw (unknown_case place c) (same_view unknown_view)
views_are (AtLeaf p) place c = same_view unknown_view

branches_are : (role : Role) (place : Place) (c : Case) → unknown_branch ≡ branch_at role place opened_node c
branches_are AtRoot place c = refl
branches_are (Below p) place c = refl
branches_are (AtLeaf p) place c = rw (no_branch place c) refl

boot_is : 1 ≡ boot_of (kept opened_node)
unfolding boot_of
boot_is = refl

pub opened_stands : (place : Place) → StandsFor opened_node (opened_core place)
opened_stands place =
    record {
      forced = refl;
      unforced = refl;
      failed = refl;
      up = λ runs. record {
        boot = boot_is;
        begun = nothing_begun place;
        given = nothing_given place;
        tickets = no_ticket place;
        views = views_are place.role place;
        branches = branches_are place.role place;
        decided = λ c is. absurd (cc);
      };
    }
