-- The headline of every run of every tree, from what each process keeps.
use Rattle.std.proofs.Common.{◌≡◌, Some, None, List, ◌∷◌, ◌++◌, refl, sym, ap, subst}
use Rattle.protocol.specs.declared.names.ProcessId.{ProcessId}
use Rattle.protocol.specs.declared.events.Happening.{Happening}
use Rattle.protocol.specs.declared.events.Happening.TheVariants.{Restart, Trim}
use Rattle.protocol_words.specs.Variants.{Handles}
use Rattle.protocol.specs.declared.trees.TreeProcess.{TreeProcess}
use Rattle.protocol.specs.Nodes.{AtRoot, Below, Effect, Role, place_of, role_of, IsCoordinator}
use Rattle.protocol.specs.Outcomes.{Headline}
use Rattle.protocol.specs.Trees.{IsTree}
use Rattle.protocol.specs.World.{IsRun, Made, Move, MayHappen, World, makes, world_makes}
use Rattle.protocol.proofs.RunLaws.{makes_at}
use Rattle.proof_processes.specs.ProcessSteps.{ParentStep}
use Rattle.proof_processes.specs.WorldHolds.{Coordinates, NodeHolds, RoleHolds, WorldHolds}
use Rattle.proof_processes.proofs.Levels.{parent_elsewhere}
use Rattle.proof_processes.proofs.RootsHold.{nodes_hold}
use Rattle.proof_steps.proofs.cascades.ChildSteps.{cascaded_child_steps}
use Rattle.proof_steps.specs.crashes.CoordinatorCrashes.{IsCrash}
use Rattle.proof_steps.proofs.crashes.CoordinatorCrashes.{coordinator_crashes}
use Rattle.proof_headline.specs.CoordinatorLaws.{CascadedKeeps, CascadedLaws, RootKeeps, RootLaws}
use Rattle.proof_headline.specs.ProcessLaws.{ProcessLaws}
use Rattle.proof_headline.proofs.Coordinators.{coordinators_keep, headline_of_runs}
use Rattle.proof_headline.proofs.Headline.{runs_hold}
use Rattle.proof_headline.proofs.Managers.{coordinators_are_enough}
use Rattle.proof_steps.specs.parents.ParentRows.{NoOwnParent}
use Rattle.proof_steps.proofs.parents.FaultLaws.{coordinator_inputs}
use Rattle.proof_headline.proofs.runs.BornHolds.{joined_are_born}
use Rattle.proof_headline.proofs.runs.MessagesHold.{messages_hold}

-- no process of a tree is its own parent
no_own_parent : (tree : List TreeProcess) → IsTree tree → NoOwnParent tree
no_own_parent tree is_tree q listed child = parent_elsewhere tree is_tree q q listed child refl

module _ (tree : List TreeProcess) (is_tree : IsTree tree) (es : List Made) (w : World)
    (run : IsRun tree es w)
    (h : WorldHolds tree w) (m : Move) (e : Effect) (w' : World)
    (stands : MayHappen w.net m.step.process m.step.happening) (made : world_makes tree w m ≡ Some (e, w'))
  where
    abbrev q : ProcessId
    q = m.step.process

    net_then : w'.net ≡ w.net ++ e.messages
    net_then = ap (λ (x : World). x.net) (makes_at tree w m e w' made).world

    node : NodeHolds (place_of tree q) (w.net ++ e.messages) (w'.at q)
    node =
        subst (λ ls. NodeHolds (place_of tree q) ls (w'.at q)) net_then
        (nodes_hold tree (record { move = m; effect = e } ∷ es) w' (makes es w m e w' run stands made) q)

    of_role : (r : Role) → role_of tree q ≡ r → RoleHolds r (place_of tree q) (w.net ++ e.messages) (w'.at q)
    of_role r f = subst (λ x. RoleHolds x (place_of tree q) (w.net ++ e.messages) (w'.at q)) f node.role

    -- the pairs below a coordinator
    below : IsCoordinator (role_of tree q) → Coordinates (place_of tree q) (w.net ++ e.messages) (w'.at q)
        → ParentStep (place_of tree q) w.net e.messages (w.at q) (w'.at q)
    below i co = by_happening m.step.happening refl
      where
        by_happening : (x : Happening) → m.step.happening ≡ x
            → ParentStep (place_of tree q) w.net e.messages (w.at q) (w'.at q)
        by_happening (Handles x) f =
            coordinator_inputs tree es w (no_own_parent tree is_tree) run h
            (joined_are_born tree es w run) m e w' i stands
            made x f co
        by_happening (Restart k) f =
            coordinator_crashes tree is_tree es w run h m e w' i (subst IsCrash (sym f) tt) stands made
        by_happening Trim f =
            coordinator_crashes tree is_tree es w run h m e w' i (subst IsCrash (sym f) tt) stands made

    root_keeps : role_of tree q ≡ AtRoot → RootKeeps (place_of tree q) w.net e.messages (w.at q) (w'.at q)
    root_keeps top =
        let r = of_role AtRoot top in
        record {
          coordinates = r.0;
          begins = r.1;
          sends = messages_hold tree es w run h m e w' None top stands made;
          pairs_below = below (subst IsCoordinator (sym top) tt) r.0;
        }

    cascaded_keeps : (p : ProcessId) → role_of tree q ≡ Below p
        → CascadedKeeps (place_of tree q) w.net e.messages (w.at q) (w'.at q)
    cascaded_keeps p f =
        let r = of_role (Below p) f in
        let sends = messages_hold tree es w run h m e w' (Some p) f stands made in
        record {
          coordinates = r.0;
          cascades = r.1.0;
          gives = record {
            recorded_is_given = r.1.1.recorded_is_given;
            remembered_is_given = r.1.1.remembered_is_given;
            promised_was_asked = r.1.1.promised_was_asked;
          };
          sends = sends;
          pairs_below = below (subst IsCoordinator (sym f) tt) r.0;
          pairs_above = cascaded_child_steps tree is_tree es w run h.net m e w' p f stands made sends.go;
        }

pub root_laws : (tree : List TreeProcess) → IsTree tree → RootLaws tree
root_laws tree is_tree es w run h m e w' top stands made =
    root_keeps tree is_tree es w run h m e w' stands made top

pub cascaded_laws : (tree : List TreeProcess) → IsTree tree → CascadedLaws tree
cascaded_laws tree is_tree es w run h m e w' p below stands made =
    cascaded_keeps tree is_tree es w run h m e w' stands made p below

process_laws : (tree : List TreeProcess) → IsTree tree → ProcessLaws tree
process_laws tree is_tree =
    coordinators_are_enough tree (coordinators_keep tree (root_laws tree is_tree)
    (cascaded_laws tree is_tree))

pub the_world_holds : (tree : List TreeProcess) → IsTree tree → (es : List Made) (w : World) → IsRun tree es w
    → WorldHolds tree w
the_world_holds tree is_tree = runs_hold tree is_tree (process_laws tree is_tree)

pub headline : (tree : List TreeProcess) → IsTree tree → (es : List Made) (w : World) → IsRun tree es w
    → Headline tree es w
headline tree is_tree = headline_of_runs tree is_tree (root_laws tree is_tree) (cascaded_laws tree is_tree)
