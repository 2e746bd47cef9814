-- What a step of a cascaded coordinator does to the pairs above it.
use Rattle.std.specs.Prelude.{◌≡◌, Some, List}
use Rattle.protocol.specs.declared.names.ProcessId.{ProcessId}
use Rattle.protocol.specs.declared.trees.TreeProcess.{TreeProcess}
use Rattle.protocol.specs.Nodes.{Below, Effect, place_of, role_of}
use Rattle.protocol.specs.Trees.{IsTree}
use Rattle.protocol.specs.World.{IsRun, Made, Move, MayHappen, World, world_makes}
use Rattle.proof_processes.specs.ProcessSteps.{ChildStep}
use Rattle.proof_processes.specs.WorldHolds.{AllGo}

-- In every run of a tree whose messages have gone to where they belong, each step of a cascaded coordinator
-- keeps the
-- pairs above it, if the messages of the step do so too.
abbrev pub CascadedChildSteps : Type 0
CascadedChildSteps = (tree : List TreeProcess) → IsTree tree → (es : List Made) (w : World) → IsRun tree es w
    → AllGo tree w.net
    → (m : Move) (e : Effect) (w' : World) (p : ProcessId) → role_of tree m.step.process ≡ Below p
    → MayHappen w.net m.step.process m.step.happening → world_makes tree w m ≡ Some (e, w')
    → AllGo tree e.messages
    → (let q = m.step.process in ChildStep (place_of tree q) w.net e.messages (w.at q) (w'.at q))
