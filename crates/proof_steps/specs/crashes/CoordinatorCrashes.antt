-- What a restart or a trim of a coordinator does to the pairs below it.
use Rattle.std.specs.Prelude.{◌≡◌, Some, List}
use Rattle.protocol.specs.declared.events.Happening.{Happening}
use Rattle.protocol.specs.declared.events.Happening.TheVariants.{Restart, Trim}
use Rattle.protocol_words.specs.Variants.{Handles}
use Rattle.protocol.specs.declared.trees.TreeProcess.{TreeProcess}
use Rattle.protocol.specs.Nodes.{Effect, place_of, role_of, IsCoordinator}
use Rattle.protocol.specs.Trees.{IsTree}
use Rattle.protocol.specs.World.{IsRun, Made, Move, MayHappen, World, world_makes}
use Rattle.proof_processes.specs.ProcessSteps.{ParentStep}
use Rattle.proof_processes.specs.WorldHolds.{WorldHolds}

-- a restart or a trim
abbrev pub IsCrash : Happening → Type 0
IsCrash (Restart k) = Unit {0}
IsCrash Trim = Unit {0}
IsCrash (Handles i) = ⊥

-- In every run of a tree each restart and each trim of each coordinator keeps the pairs below it, wherever
-- the world's
-- invariant holds before.
abbrev pub CoordinatorCrashes : Type 0
CoordinatorCrashes = (tree : List TreeProcess) → IsTree tree → (es : List Made) (w : World) → IsRun tree es w
    → WorldHolds tree w → (m : Move) (e : Effect) (w' : World) → IsCoordinator (role_of tree m.step.process)
    → IsCrash m.step.happening → MayHappen w.net m.step.process m.step.happening
    → world_makes tree w m ≡ Some (e, w')
    → (let q = m.step.process in ParentStep (place_of tree q) w.net e.messages (w.at q) (w'.at q))
