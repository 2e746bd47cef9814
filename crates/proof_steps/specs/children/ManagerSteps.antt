-- A manager's steps as moves of its pairs.
use Rattle.std.specs.Prelude.{◌≡◌, Bool, Some, List}
use Rattle.protocol.specs.declared.names.Case.{Case}
use Rattle.protocol.specs.declared.names.ProcessId.{ProcessId}
use Rattle.protocol.specs.declared.names.Ticket.{Ticket}
use Rattle.protocol.specs.declared.trees.TreeProcess.{TreeProcess}
use Rattle.protocol.specs.Nodes.{Effect}
use Rattle.protocol.specs.World.{IsRun, Made, Move, MayHappen, World, world_makes}
use Rattle.proof_pairs.specs.Keeps.{FollowsReading}
use Rattle.proof_pairs.specs.readings.ReadingOf.{reading_of}
use Rattle.proof_pairs.specs.readings.Steps.{IsLeafPair}
use Rattle.proof_processes.specs.WorldHolds.{InvariantOf}

-- In every run, each step of a manager, whatever it is and wherever its device fails in it, keeps the
-- invariant of each
-- pair of the manager, and what was true of the pair for ever, whatever the parent's process and the pair
-- above say.
abbrev pub ManagerSteps : Type 0
ManagerSteps = (tree : List TreeProcess) (es : List Made) (w : World) → IsRun tree es w
    → (c : Case) (t : Ticket) (p : ProcessId) → IsLeafPair tree c t p → (above : Bool)
    → (m : Move) (e : Effect) (w' : World) → m.step.process ≡ t.child
    → MayHappen w.net m.step.process m.step.happening → world_makes tree w m ≡ Some (e, w')
    → InvariantOf c.txn.presumption (reading_of tree w above c t)
    → FollowsReading (InvariantOf c.txn.presumption) (reading_of tree w above c t)
    (reading_of tree w' above c t)
