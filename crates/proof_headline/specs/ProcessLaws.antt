-- What the steps of single processes keep, from which the world's invariant follows.
use Rattle.std.specs.Prelude.{◌≡◌, Some, List, [], ◌++◌}
use Rattle.protocol.specs.declared.messages.Envelope.{Envelope}
use Rattle.protocol.specs.declared.trees.TreeProcess.{TreeProcess}
use Rattle.protocol.specs.Nodes.{Effect, Node, Place, place_of, role_of, IsCoordinator}
use Rattle.protocol.specs.World.{IsRun, Made, Move, MayHappen, World, world_makes}
use Rattle.proof_processes.specs.ProcessSteps.{ChildStep, Elsewhere, ParentStep}
use Rattle.proof_processes.specs.WorldHolds.{AboutGiven, AllGo, NodeHolds, WorldHolds}
use Rattle.proof_steps.specs.cascades.Messages.{AllSentBy}

-- What one step of a process keeps: the process's own part of the world's invariant, where its messages go
-- and of which cases they are, and the invariant of each pair of which it has a half.
pub record StepKeeps (place : Place) (net ls : List Envelope) (n n' : Node) : Type 0 where
  pub holds : NodeHolds place (net ++ ls) n'
  pub sent_here : AllSentBy place.me ls
  pub go : AllGo place.tree ls
  pub about_given : AboutGiven (net ++ ls)
  pub pairs_below : ParentStep place net ls n n'
  pub pairs_above : ChildStep place net ls n n'
  pub pairs_elsewhere : Elsewhere place ls

-- The laws of the processes of a tree: where a run has led to a world in which the world's invariant holds,
-- each step of each process keeps this.
abbrev pub ProcessLaws : List TreeProcess → Type 0
ProcessLaws tree = (es : List Made) (w : World) → IsRun tree es w → WorldHolds tree w
    → (m : Move) (e : Effect) (w' : World) → MayHappen w.net m.step.process m.step.happening
    → world_makes tree w m ≡ Some (e, w')
    → StepKeeps (place_of tree m.step.process) w.net e.messages (w.at m.step.process) (w'.at m.step.process)

-- The laws of the coordinators of a tree: if a run has led to a world in which the world's invariant holds,
-- each step of each coordinator keeps this.
abbrev pub CoordinatorLaws : List TreeProcess → Type 0
CoordinatorLaws tree = (es : List Made) (w : World) → IsRun tree es w → WorldHolds tree w
    → (m : Move) (e : Effect) (w' : World) → IsCoordinator (role_of tree m.step.process)
    → MayHappen w.net m.step.process m.step.happening → world_makes tree w m ≡ Some (e, w')
    → StepKeeps (place_of tree m.step.process) w.net e.messages (w.at m.step.process) (w'.at m.step.process)
