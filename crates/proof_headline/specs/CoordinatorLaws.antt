-- What is enough of coordinators: the rest of what their steps keep follows.
use Rattle.std.specs.Prelude.{◌≡◌, ◌≢◌, true, false, Some, List, ◌++◌}
use Rattle.protocol.specs.declared.messages.Envelope.{Envelope}
use Rattle.protocol.specs.declared.names.Case.{Case}
use Rattle.protocol.specs.declared.names.ProcessId.{ProcessId}
use Rattle.protocol.specs.declared.trees.TreeProcess.{TreeProcess}
use Rattle.protocol.specs.Memory.{Idle, memory_of}
use Rattle.protocol.specs.Names.{process_of}
use Rattle.protocol.specs.Nodes.{AtRoot, Below, Effect, Node, Place, place_of, role_of}
use Rattle.protocol.specs.Outcomes.{sent}
use Rattle.protocol.specs.Records.{has}
use Rattle.protocol.specs.World.{IsRun, Made, Move, MayHappen, World, world_makes}
use Rattle.proof_pairs.specs.readings.ReadingOf.{gives_case, is_prepare_message}
use Rattle.protocol.specs.Audits.{is_promise}
use Rattle.proof_processes.specs.ProcessSteps.{ChildStep, ParentStep}
use Rattle.proof_processes.specs.WorldHolds.{AboutGiven, AllGo, RootHolds, Cascades, Coordinates, WorldHolds, is_record_of}

-- What a coordinator sends goes to where the message belongs, and is of a case that was given.
pub record SendsWell (place : Place) (net ls : List Envelope) : Type 0 where
  pub go : AllGo place.tree ls
  pub about_given : AboutGiven (net ++ ls)

-- What a cascaded coordinator records and remembers is of cases that it gave, and it promises only where it
-- was asked.
pub record GivesCases (place : Place) (net : List Envelope) (n : Node) : Type 0 where
  pub recorded_is_given : (d : Case) → has (is_record_of d) n.life ≡ true
      → (process_of d ≡ place.me) × (sent (gives_case d) net ≡ true)
  pub remembered_is_given : n.failed ≡ false → (d : Case) → (memory_of place n d).phase ≢ Idle
      → (process_of d ≡ place.me) × (sent (gives_case d) net ≡ true)
  pub promised_was_asked : (d : Case) → has (is_promise d) n.life ≡ true → sent (is_prepare_message d) net
      ≡ true

-- What one step of the root keeps.
pub record RootKeeps (place : Place) (net ls : List Envelope) (n n' : Node) : Type 0 where
  pub coordinates : Coordinates place (net ++ ls) n'
  pub begins : RootHolds place n'
  pub sends : SendsWell place net ls
  pub pairs_below : ParentStep place net ls n n'

-- What one step of a cascaded coordinator keeps.
pub record CascadedKeeps (place : Place) (net ls : List Envelope) (n n' : Node) : Type 0 where
  pub coordinates : Coordinates place (net ++ ls) n'
  pub cascades : Cascades place (net ++ ls) n'
  pub gives : GivesCases place (net ++ ls) n'
  pub sends : SendsWell place net ls
  pub pairs_below : ParentStep place net ls n n'
  pub pairs_above : ChildStep place net ls n n'

-- The laws of the root: where a run has led to a world in which the world's invariant holds, each step of it
-- keeps this.
abbrev pub RootLaws : List TreeProcess → Type 0
RootLaws tree = (es : List Made) (w : World) → IsRun tree es w → WorldHolds tree w
    → (m : Move) (e : Effect) (w' : World) → role_of tree m.step.process ≡ AtRoot
    → MayHappen w.net m.step.process m.step.happening → world_makes tree w m ≡ Some (e, w')
    → RootKeeps (place_of tree m.step.process) w.net e.messages (w.at m.step.process) (w'.at m.step.process)

-- The laws of the cascaded coordinators.
abbrev pub CascadedLaws : List TreeProcess → Type 0
CascadedLaws tree = (es : List Made) (w : World) → IsRun tree es w → WorldHolds tree w
    → (m : Move) (e : Effect) (w' : World) (p : ProcessId) → role_of tree m.step.process ≡ Below p
    → MayHappen w.net m.step.process m.step.happening → world_makes tree w m ≡ Some (e, w')
    → CascadedKeeps (place_of tree m.step.process) w.net e.messages (w.at m.step.process)
    (w'.at m.step.process)
