-- What an input of a coordinator does to the pairs below it.
use Rattle.std.specs.Prelude.{◌≡◌, ◌++◌, true, None, Some, List}
use Rattle.protocol.specs.declared.names.Case.{Case}
use Rattle.protocol.specs.declared.names.ProcessId.{ProcessId}
use Rattle.protocol.specs.declared.names.Ticket.{Ticket}
use Rattle.protocol_words.specs.Variants.{Handles}
use Rattle.protocol.specs.declared.events.Input.{Input}
use Rattle.protocol.specs.declared.trees.TreeProcess.{TreeProcess}
use Rattle.protocol.specs.Names.{process_of}
use Rattle.protocol.specs.Nodes.{Effect, is_listed, place_of, role_of, IsCoordinator}
use Rattle.protocol.specs.Outcomes.{is_joined_message, sent}
use Rattle.protocol.specs.World.{IsRun, Made, Move, MayHappen, World, world_makes}
use Rattle.proof_pairs.specs.readings.ReadingOf.{gives_case, is_born, is_root_ticket, parent_half}
use Rattle.proof_processes.specs.ProcessSteps.{ParentStep}
use Rattle.proof_processes.specs.WorldHolds.{Coordinates, IsChildRole, IsPair, WorldHolds}

-- no process is its own parent; so it is in a tree
abbrev pub NoOwnParent : List TreeProcess → Type 0
NoOwnParent tree = (q : ProcessId) → is_listed tree q ≡ true → IsChildRole (role_of tree q) q → ⊥

-- a case to which JOINED gave a ticket is known: the root began it, or its own ticket was given
abbrev pub JoinedAreBorn : List TreeProcess → World → Type 0
JoinedAreBorn tree w = (c : Case) (t : Ticket) → IsPair tree c t → sent (is_joined_message c t) w.net ≡ true
    → is_born (is_root_ticket c.ticket)
    (parent_half (place_of tree (process_of c)) (w.at (process_of c)) c t).begun (sent (gives_case c) w.net)
    ≡ true

-- Where a run has led to a world in which the world's invariant holds, each input that a coordinator
-- handles or passes
-- over keeps the pairs below it, whatever the outcome and the child's half are.
abbrev pub CoordinatorRows : Type 0
CoordinatorRows = (tree : List TreeProcess) (es : List Made) (w : World) → NoOwnParent tree → IsRun tree es w
    → WorldHolds tree w → JoinedAreBorn tree w
    → (m : Move) (e : Effect) (w' : World) → IsCoordinator (role_of tree m.step.process)
    → MayHappen w.net m.step.process m.step.happening → world_makes tree w m ≡ Some (e, w')
    → (i : Input) → m.step.happening ≡ Handles i → m.step.fault ≡ None
    → (let q = m.step.process in
    Coordinates (place_of tree q) (w.net ++ e.messages) (w'.at q)
    → ParentStep (place_of tree q) w.net e.messages (w.at q) (w'.at q))

-- If a run has led to a world in which the world's invariant holds, each input of a coordinator keeps the
-- pairs below it, even if the device fails in it, whatever of its records was appended, and whatever was
-- forced.
abbrev pub CoordinatorInputs : Type 0
CoordinatorInputs = (tree : List TreeProcess) (es : List Made) (w : World) → NoOwnParent tree
    → IsRun tree es w
    → WorldHolds tree w → JoinedAreBorn tree w
    → (m : Move) (e : Effect) (w' : World) → IsCoordinator (role_of tree m.step.process)
    → MayHappen w.net m.step.process m.step.happening → world_makes tree w m ≡ Some (e, w')
    → (i : Input) → m.step.happening ≡ Handles i
    → (let q = m.step.process in
    Coordinates (place_of tree q) (w.net ++ e.messages) (w'.at q)
    → ParentStep (place_of tree q) w.net e.messages (w.at q) (w'.at q))
