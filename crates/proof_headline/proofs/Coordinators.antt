-- The laws of the root and of the cascaded coordinators are enough.
use Rattle.std.proofs.Common.{◌≡◌, ◌∙◌, Some, List, ◌∷◌, ◌++◌, refl, sym, ap, subst}
use Rattle.protocol.specs.declared.messages.Envelope.{Envelope}
use Rattle.protocol.specs.declared.names.ProcessId.{ProcessId}
use Rattle.protocol.specs.declared.trees.TreeProcess.{TreeProcess}
use Rattle.protocol.specs.Names.{process_of}
use Rattle.protocol.specs.Nodes.{AtLeaf, AtRoot, Below, Effect, Node, Place, Role, place_of, role_of, IsCoordinator}
use Rattle.protocol.specs.Outcomes.{Headline}
use Rattle.protocol.specs.Trees.{IsTree}
use Rattle.protocol.specs.World.{IsRun, Made, Move, MayHappen, World, makes, world_makes}
use Rattle.protocol.proofs.RunLaws.{makes_at}
use Rattle.proof_pairs.proofs.turns.Steps.{step_of}
use Rattle.proof_processes.specs.Numbers.{IsIssuer, TicketNumbers}
use Rattle.proof_processes.specs.ProcessSteps.{ChildStep}
use Rattle.proof_processes.specs.WorldHolds.{IsChildRole, Issues, NodeHolds, RoleHolds}
use Rattle.proof_processes.proofs.BootsHold.{all_booted, boots_of}
use Rattle.proof_processes.proofs.ManagersHold.{numbers_are_given_once, same_self}
use Rattle.proof_processes.proofs.Worlds.{all_last}
use Rattle.proof_headline.specs.ProcessLaws.{CoordinatorLaws, StepKeeps}
use Rattle.proof_steps.specs.cascades.Messages.{AllSentBy}
use Rattle.proof_headline.specs.CoordinatorLaws.{CascadedKeeps, CascadedLaws, GivesCases, RootKeeps, RootLaws}
use Rattle.proof_headline.proofs.Managers.{headline_from_coordinators}
use Rattle.proof_headline.proofs.Quiet.{elsewhere}
use Rattle.proof_headline.proofs.Senders.{step_from}

issues_by : (place : Place) (net : List Envelope) (n : Node) → TicketNumbers place net n
    → GivesCases place net n
    → Issues place net n
issues_by place net n numbers gives = record {
  given_once = numbers.given_once;
  given_before = numbers.given_before;
  recorded_is_given = gives.recorded_is_given;
  remembered_is_given = gives.remembered_is_given;
  active_was_joined = numbers.active_was_joined;
  promised_was_asked = gives.promised_was_asked;
}

-- the root is nobody's child
no_pair_above : (place : Place) (net ls : List Envelope) (n k : Node) → role_of place.tree place.me ≡ AtRoot
    → ChildStep place net ls n k
no_pair_above place net ls n k top = record {
  follows = λ c t pair same. absurd (subst (λ (r : Role). IsChildRole r (process_of c))
      (ap (role_of place.tree) same ∙ top) pair.child);
}

module _ (tree : List TreeProcess) (es : List Made) (w : World) (run : IsRun tree es w)
    (m : Move) (e : Effect) (w' : World) (stands : MayHappen w.net m.step.process m.step.happening)
    (made : world_makes tree w m ≡ Some (e, w')) where
  abbrev q : ProcessId
  q = m.step.process

  run_then : IsRun tree (record { move = m; effect = e } ∷ es) w'
  run_then = makes es w m e w' run stands made

  net_then : w'.net ≡ w.net ++ e.messages
  net_then = ap (λ (x : World). x.net) (makes_at tree w m e w' made).world

  -- what is proved of every process already
  node_by_role : RoleHolds (role_of tree m.step.process) (place_of tree m.step.process) (w.net ++ e.messages)
      (w'.at m.step.process) → NodeHolds (place_of tree m.step.process) (w.net ++ e.messages)
      (w'.at m.step.process)
  node_by_role h = record {
    lasts = all_last tree (record { move = m; effect = e } ∷ es) w' run_then q;
    boots = boots_of (w'.at q) (all_booted tree (record { move = m; effect = e } ∷ es) w' run_then q);
    self = same_self (place_of tree q) (w'.at q);
    role = h;
  }

  -- a coordinator sends each of its messages itself
  sent : IsCoordinator (role_of tree m.step.process) → AllSentBy m.step.process e.messages
  sent is =
      let at = makes_at tree w m e w' made in
      step_from (place_of tree q) (w.at q) m is e at.node
      (step_of (place_of tree q) (w.at q) m e at.node at.made)

  by_role : (r : Role) → role_of tree m.step.process ≡ r
      → RoleHolds r (place_of tree m.step.process) (w.net ++ e.messages) (w'.at m.step.process)
      → RoleHolds (role_of tree m.step.process) (place_of tree m.step.process) (w.net ++ e.messages) (w'.at
      m.step.process)
  by_role r f h = subst (λ (x : Role). RoleHolds x (place_of tree q) (w.net ++ e.messages) (w'.at q))
      (sym f) h

  root_keeps : role_of tree m.step.process ≡ AtRoot
      → RootKeeps (place_of tree m.step.process) w.net e.messages (w.at m.step.process) (w'.at m.step.process)
      → StepKeeps (place_of tree m.step.process) w.net e.messages (w.at m.step.process) (w'.at m.step.process)
  root_keeps top h = record {
    holds = node_by_role (by_role AtRoot top (h.coordinates, h.begins));
    sent_here = sent (subst IsCoordinator (sym top) tt);
    go = h.sends.go;
    about_given = h.sends.about_given;
    pairs_below = h.pairs_below;
    pairs_above = no_pair_above (place_of tree q) w.net e.messages (w.at q) (w'.at q) top;
    pairs_elsewhere = elsewhere (place_of tree q) e.messages (sent (subst IsCoordinator (sym top) tt))
        h.sends.go;
  }

  cascaded_keeps : (p : ProcessId) → role_of tree m.step.process ≡ Below p
      → CascadedKeeps (place_of tree m.step.process) w.net e.messages (w.at m.step.process)
      (w'.at m.step.process)
      → StepKeeps (place_of tree m.step.process) w.net e.messages (w.at m.step.process) (w'.at m.step.process)
  cascaded_keeps p below h =
      let numbers : TicketNumbers (place_of tree q) (w.net ++ e.messages) (w'.at q) =
      subst (λ (net : List Envelope). TicketNumbers (place_of tree q) net (w'.at q)) net_then
      (numbers_are_given_once tree (record { move = m; effect = e } ∷ es) w' run_then q
      (subst IsIssuer (sym below) tt)) in
      record {
        holds = node_by_role (by_role (Below p) below (
          h.coordinates,
          (h.cascades, issues_by (place_of tree q) (w.net ++ e.messages) (w'.at q) numbers h.gives),
        ));
        sent_here = sent (subst IsCoordinator (sym below) tt);
        go = h.sends.go;
        about_given = h.sends.about_given;
        pairs_below = h.pairs_below;
        pairs_above = h.pairs_above;
        pairs_elsewhere = elsewhere (place_of tree q) e.messages
            (sent (subst IsCoordinator (sym below) tt)) h.sends.go;
      }

pub coordinators_keep : (tree : List TreeProcess) → RootLaws tree → CascadedLaws tree → CoordinatorLaws tree
coordinators_keep tree roots cascaded es w run h m e w' is stands made = keep
    (role_of tree m.step.process) refl is
  where
    keep : (r : Role) → role_of tree m.step.process ≡ r → IsCoordinator (role_of tree m.step.process)
        → StepKeeps (place_of tree m.step.process) w.net e.messages (w.at m.step.process)
        (w'.at m.step.process)
    keep AtRoot f i = root_keeps tree es w run m e w' stands made f (roots es w run h m e w' f stands made)
    keep (Below p) f i = cascaded_keeps tree es w run m e w' stands made p f (cascaded es w run h m e w' p f
        stands made)
    keep (AtLeaf p) f i = absurd (subst IsCoordinator f i)

pub headline_of_runs : (tree : List TreeProcess) → IsTree tree → RootLaws tree → CascadedLaws tree
    → (es : List Made)
    (w : World) → IsRun tree es w → Headline tree es w
headline_of_runs tree is_tree roots cascaded = headline_from_coordinators tree is_tree (coordinators_keep
    tree roots cascaded)
