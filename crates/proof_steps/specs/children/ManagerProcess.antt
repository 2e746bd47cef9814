-- What a step of a manager does to all pairs of the tree.
use Rattle.std.specs.Prelude.{◌≡◌, Some, List}
use Rattle.protocol.specs.declared.names.ProcessId.{ProcessId}
use Rattle.protocol.specs.declared.trees.TreeProcess.{TreeProcess}
use Rattle.protocol.specs.Nodes.{AtLeaf, Effect, place_of, role_of}
use Rattle.protocol.specs.World.{IsRun, Made, Move, MayHappen, World, world_makes}
use Rattle.proof_processes.specs.ProcessSteps.{ChildStep, Elsewhere, ParentStep}

-- In every run, each step of a manager keeps the pairs above it, has none below it, and is of no pair of
-- others.
abbrev pub ManagerProcess : Type 0
ManagerProcess = (tree : List TreeProcess) (es : List Made) (w : World) → IsRun tree es w
    → (m : Move) (e : Effect) (w' : World) (p : ProcessId) → role_of tree m.step.process ≡ AtLeaf p
    → MayHappen w.net m.step.process m.step.happening → world_makes tree w m ≡ Some (e, w')
    → (let q = m.step.process in
    ChildStep (place_of tree q) w.net e.messages (w.at q) (w'.at q)
    × (ParentStep (place_of tree q) w.net e.messages (w.at q) (w'.at q)
    × Elsewhere (place_of tree q) e.messages))
