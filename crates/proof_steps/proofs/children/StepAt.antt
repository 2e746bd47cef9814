-- A step of a manager as its pair sees it: the parent's half and the outcome stay.
use Rattle.std.proofs.Common.{◌≡◌, ◌∙◌, Bool, true, Some, List, ◌++◌, sym, ap, subst}
use Rattle.protocol.specs.declared.names.Case.{Case}
use Rattle.protocol.specs.declared.names.ProcessId.{ProcessId}
use Rattle.protocol.specs.declared.names.Ticket.{Ticket}
use Rattle.protocol.specs.declared.messages.Envelope.{Envelope}
use Rattle.protocol.specs.declared.trees.TreeProcess.{TreeProcess}
use Rattle.protocol.specs.Names.{child_case, process_of}
use Rattle.protocol.specs.Nodes.{Place, Role, AtLeaf, Node, Effect, place_of}
use Rattle.protocol.specs.Outcomes.{is_commit_outcome}
use Rattle.protocol.specs.World.{World, Made, Move, IsRun, Makes, node_makes, world_makes}
use Rattle.protocol.proofs.RunLaws.{makes_at}
use Rattle.proof_pairs.specs.Reading.{Reading}
use Rattle.proof_pairs.specs.readings.ReadingOf.{reading_of, reading_from, is_root_ticket, parent_half, child_half, wire}
use Rattle.proof_pairs.specs.readings.Steps.{IsLeafPair, made_at}
use Rattle.proof_pairs.proofs.readings.ReadingSteps.{at_child, before}
use Rattle.proof_pairs.specs.turns.Steps.{StepOf}
use Rattle.proof_pairs.proofs.turns.Steps.{step_of}
use Rattle.proof_processes.specs.Lasts.{logs_of, Lasts}
use Rattle.proof_processes.specs.WorldHolds.{InvariantOf}
use Rattle.proof_processes.proofs.Worlds.{all_last}
use Rattle.proof_steps.proofs.children.Moves.{Fits}

abbrev pub manager_place : List TreeProcess → Ticket → ProcessId → Place
manager_place tree t p = record { me = t.child; role = AtLeaf p; tree = tree }

-- what lasts at the pair's manager
pub manager_lasts : (tree : List TreeProcess) (es : List Made) (w : World) → IsRun tree es w → (c : Case)
    (t : Ticket) (p : ProcessId) → IsLeafPair tree c t p → Lasts (AtLeaf p) (logs_of (w.at t.child))
manager_lasts tree es w run c t p pair =
    subst (λ (x : Role). Lasts x (logs_of (w.at t.child))) pair.leaf (all_last tree es w run t.child)

module _ (tree : List TreeProcess) (w : World) (c : Case) (t : Ticket) (p : ProcessId)
    (pair : IsLeafPair tree c t p) (above : Bool) (m : Move) (e : Effect) (w' : World)
    (here : m.step.process ≡ t.child) (made : world_makes tree w m ≡ Some (e, w')) where
  -- the pair with the manager's process and the net as variables
  abbrev pub seen : Node → List Envelope → Reading
  seen n ls = reading_from (is_root_ticket c.ticket) true (is_commit_outcome w c.txn) above
      (parent_half (place_of tree (process_of c)) (w.at (process_of c)) c t)
      (child_half (manager_place tree t p) n (child_case c.txn t)) (wire c t ls)

  pub step_at : (InvariantOf c.txn.presumption (seen (w.at t.child) w.net) → (k : Node)
      → StepOf (manager_place tree t p) (w.at t.child) m e k
      → Fits c.txn.presumption (seen (w.at t.child) w.net) (seen k (w.net ++ e.messages)))
      → InvariantOf c.txn.presumption (reading_of tree w above c t)
      → Fits c.txn.presumption (reading_of tree w above c t) (reading_of tree w' above c t)
  step_at fits inv =
      let at = makes_at tree w m e w' made in
      let n = w.at t.child in
      let there : node_makes (place_of tree t.child) n m ≡ Makes e at.node =
      subst (λ (q : ProcessId). node_makes (place_of tree q) (w.at q) m ≡ Makes e at.node) here at.made in
      let placed : node_makes (manager_place tree t p) n m ≡ Makes e at.node =
      subst (λ (r : Role). node_makes (record { me = t.child; role = r; tree = tree }) n m ≡ Makes e at.node)
      pair.leaf there in
      let old = before tree w above c t p pair in
      let new = at_child tree w above c t p pair at.node e in
      let world : w' ≡ made_at w t.child at.node e =
      at.world ∙ ap (λ (q : ProcessId). made_at w q at.node e) here in
      subst (λ (x : World). Fits c.txn.presumption (reading_of tree w above c t)
      (reading_of tree x above c t)) (sym world)
      (subst (λ (r : Reading). Fits c.txn.presumption (reading_of tree w above c t) r) (sym new)
      (subst (λ (r : Reading). Fits c.txn.presumption r (seen at.node (w.net ++ e.messages))) old
      (fits (subst (λ (r : Reading). InvariantOf c.txn.presumption r) (sym old) inv) at.node
      (step_of (manager_place tree t p) n m e at.node placed))))
