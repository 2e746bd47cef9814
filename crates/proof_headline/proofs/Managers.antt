-- Managers keep what `ProcessLaws` says, so that the laws of coordinators are enough.
use Rattle.std.proofs.Common.{◌≡◌, Some, List, ◌∷◌, ◌++◌, refl, sym, ap, subst}
use Rattle.protocol.specs.declared.messages.Envelope.{Envelope}
use Rattle.protocol.specs.declared.names.ProcessId.{ProcessId}
use Rattle.protocol.specs.declared.trees.TreeProcess.{TreeProcess}
use Rattle.protocol.specs.Nodes.{AtLeaf, AtRoot, Below, Effect, Place, Role, place_of, role_of, IsCoordinator}
use Rattle.protocol.specs.Outcomes.{Headline}
use Rattle.protocol.specs.Trees.{IsTree}
use Rattle.protocol.specs.World.{IsRun, Made, Move, MayHappen, World, makes, world_makes}
use Rattle.protocol.proofs.RunLaws.{makes_at}
use Rattle.proof_pairs.specs.turns.Steps.{StepOf}
use Rattle.proof_pairs.proofs.turns.Steps.{step_of}
use Rattle.proof_processes.specs.Numbers.{IsIssuer}
use Rattle.proof_processes.specs.WorldHolds.{Issues, NodeHolds, WorldHolds}
use Rattle.proof_processes.proofs.ManagersHold.{managers_hold}
use Rattle.proof_processes.proofs.Unlisted.{makes_listed}
use Rattle.proof_steps.proofs.children.ManagerProcess.{manager_process}
use Rattle.proof_headline.specs.ProcessLaws.{CoordinatorLaws, ProcessLaws, StepKeeps}
use Rattle.proof_headline.proofs.Ends.{issues_in}
use Rattle.proof_headline.proofs.Headline.{headline}
use Rattle.proof_headline.proofs.ManagerMessages.{about_given, all_go, from_here, messages_fit}

manager_keeps : (tree : List TreeProcess) (es : List Made) (w : World) → IsRun tree es w → WorldHolds tree w
    → (m : Move) (e : Effect) (w' : World) (p : ProcessId) → role_of tree m.step.process ≡ AtLeaf p
    → MayHappen w.net m.step.process m.step.happening → world_makes tree w m ≡ Some (e, w')
    → StepKeeps (place_of tree m.step.process) w.net e.messages (w.at m.step.process) (w'.at m.step.process)
manager_keeps tree es w run h m e w' p leaf stands made =
    let q = m.step.process in
    let listed = makes_listed tree w m e w' made in
    let at = makes_at tree w m e w' made in
    let left_net : w'.net ≡ w.net ++ e.messages = ap (λ (x : World). x.net) at.world in
    let place : Role → Place = λ r. record { me = q; role = r; tree = tree } in
    let node = h.nodes q listed in
    let issues : Issues (place (AtLeaf p)) w.net (w.at q) = subst
    (λ (r : Role). Issues (place r) w.net (w.at q)) leaf
    (issues_in (role_of tree q) (place_of tree q) w.net (w.at q) (subst IsIssuer (sym leaf) tt) node.role) in
    let s = subst (λ (r : Role). StepOf (place r) (w.at q) m e at.node) leaf
    (step_of (place_of tree q) (w.at q) m e at.node at.made) in
    let fit = messages_fit tree q p leaf listed w.net h.net h.about_given (w.at q) node.lasts.nested issues m
    stands e at.node s in
    let pairs = manager_process tree es w run m e w' p leaf stands made in
    record {
      holds = subst (λ (net : List Envelope). NodeHolds (place_of tree q) net (w'.at q)) left_net
          (managers_hold tree (record { move = m; effect = e } ∷ es) w'
          (makes es w m e w' run stands made) q p leaf);
      sent_here = from_here tree q p leaf listed w.net e.messages fit;
      go = all_go tree q p leaf listed w.net e.messages fit;
      about_given = about_given tree q p leaf listed w.net e.messages fit h.about_given;
      pairs_below = pairs.1.0;
      pairs_above = pairs.0;
      pairs_elsewhere = pairs.1.1;
    }

pub coordinators_are_enough : (tree : List TreeProcess) → CoordinatorLaws tree → ProcessLaws tree
coordinators_are_enough tree laws es w run h m e w' stands made =
    by_role (role_of tree m.step.process) refl (laws es w run h m e w')
  where
    by_role : (role : Role) → role_of tree m.step.process ≡ role
        → (IsCoordinator (role_of tree m.step.process) → MayHappen w.net m.step.process m.step.happening
        → world_makes tree w m ≡ Some (e, w')
        → StepKeeps (place_of tree m.step.process) w.net e.messages (w.at m.step.process)
        (w'.at m.step.process))
        → StepKeeps (place_of tree m.step.process) w.net e.messages (w.at m.step.process)
        (w'.at m.step.process)
    by_role AtRoot f law = law (subst IsCoordinator (sym f) tt) stands made
    by_role (Below p) f law = law (subst IsCoordinator (sym f) tt) stands made
    by_role (AtLeaf p) f law = manager_keeps tree es w run h m e w' p f stands made

pub headline_from_coordinators : (tree : List TreeProcess) → IsTree tree → CoordinatorLaws tree
    → (es : List Made) (w : World)
    → IsRun tree es w → Headline tree es w
headline_from_coordinators tree is_tree laws = headline tree is_tree (coordinators_are_enough tree laws)
