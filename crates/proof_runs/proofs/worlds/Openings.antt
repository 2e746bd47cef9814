-- A tree whose processes have opened empty logs stands for the run with no moves.
use Rattle.std.proofs.Common.{◌≡◌, ◌∙◌, ap, sym, subst, refl, is_some, None, List, [], ◌∷◌, ℕ}
use Rattle.protocol.specs.declared.names.Case.{Case}
use Rattle.protocol.specs.declared.records.Record.TheVariants.{Opened}
use Rattle.protocol.specs.declared.trees.TreeProcess.{TreeProcess}
use Rattle.protocol.specs.Nodes.{AtLeaf, AtRoot, Below, Place, Role, is_listed, opened_node, place_of}
use Rattle.protocol.specs.Memory.{active_ticket, memory_of}
use Rattle.protocol.specs.Standings.{coordinator_view, manager_view}
use Rattle.protocol.specs.Restarts.{recorded_branch, recorded_view}
use Rattle.protocol.specs.World.{journal_of, opened_world, opens}
use Rattle.protocol.specs.SameViews.{SameView}
use Rattle.log_records.specs.Sights.{LogSight}
use Rattle.process_state.specs.States.{CoreState}
use Rattle.process_state.specs.Opening.{IsOpenedProcess}
use Rattle.process_state.specs.Restarting.{recorded_branch_at, recorded_view_at}
use Rattle.tree_state.specs.StandsFor.{StandsFor, branch_at, view_at}
use Rattle.tree_state.specs.Worlds.{WorldState}
use Rattle.tree_state.specs.Runs.{IsOpenedTree}
use Rattle.proof_runs.specs.worlds.Follows.{Follows}

nothing_begun : (place : Place) (c : Case) → (memory_of place opened_node c).begun ≡ 0
unfolding memory_of
nothing_begun place c = refl

nothing_given : (place : Place) (c : Case) → (memory_of place opened_node c).given ≡ 0
unfolding memory_of
nothing_given place c = refl

nothing_active : (place : Place) (d : Case) → active_ticket (memory_of place opened_node d).active d ≡ None
unfolding memory_of active_ticket
nothing_active place d = refl

recorded : (place : Place) (c : Case) → recorded_view (Opened 1 ∷ []) c ≡ coordinator_view place opened_node c
unfolding recorded_view coordinator_view memory_of
recorded place c = refl

recorded_one : (place : Place) (c : Case) → recorded_branch (Opened 1 ∷ []) c
    ≡ manager_view place opened_node c
unfolding recorded_branch manager_view memory_of
recorded_one place c = refl

views : (role : Role) (place : Place) (c : Case)
    → recorded_view_at role (Opened 1 ∷ []) c ≡ view_at role place opened_node c
views AtRoot place c = recorded place c
views (Below p) place c = recorded place c
views (AtLeaf p) place c = refl

branches : (role : Role) (place : Place) (c : Case)
    → recorded_branch_at role (Opened 1 ∷ []) c ≡ branch_at role place opened_node c
branches AtRoot place c = refl
branches (Below p) place c = refl
branches (AtLeaf p) place c = recorded_one place c

pub opened_stands : (s : CoreState) (place : Place) (failures : ℕ)
    → IsOpenedProcess s place failures → StandsFor opened_node s
opened_stands s place failures h =
    record {
      forced = ap (λ (l : LogSight). l.kept.forced) h.log;
      unforced = ap (λ (l : LogSight). l.kept.unforced) h.log;
      failed = ap (λ (l : LogSight). l.failed) h.log;
      up = λ runs. record {
        boot = h.read.boot;
        begun = λ c. h.read.begun ∙ sym (nothing_begun s.place c);
        given = λ c. h.read.given ∙ sym (nothing_given s.place c);
        tickets = λ d. h.read.tickets d ∙ sym (nothing_active s.place d);
        views = λ c. subst (λ v. SameView (s.view_of c) v) (views s.place.role s.place c) (h.read.views c);
        branches = λ c. h.read.branches c ∙ branches s.place.role s.place c;
        decided = h.read.decided;
      };
    }

nothing_shown : journal_of [] ≡ []
unfolding journal_of
nothing_shown = refl

pub opened_follows : (tree : List TreeProcess) (s : WorldState) → IsOpenedTree s tree
    → Follows [] opened_world s
opened_follows tree s h =
    record {
      is_run = opens;
      by_this = tt;
      shown = nothing_shown ∙ sym h.entries;
      net = h.net;
      nodes = λ q c there. let one = h.nodes q c there in
          record {
            place = one.opened.place_is ∙ ap (λ t. place_of t q) (sym h.tree_is);
            stands = opened_stands c (place_of tree q) one.failures one.opened;
          };
      listed = λ q. subst (λ t. is_some (s.node_at q) ≡ is_listed t q) (sym h.tree_is) (h.listed q);
    }
