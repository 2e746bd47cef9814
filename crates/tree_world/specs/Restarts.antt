-- Restarts and trims of one process among all.
use Rattle.std.specs.Prelude.{◌≡◌, ℕ, Option, None}
use Rattle.protocol.specs.declared.names.ProcessId.{ProcessId}
use Rattle.protocol.specs.declared.events.Reaction.{Reaction}
use Rattle.protocol.specs.declared.events.StepError.{StepError}
use Rattle.protocol.specs.declared.events.StepError.TheVariants.{Memory, Device, Failed, NoSuch, Exhausted}
use Rattle.process_state.specs.States.{CoreState}
use Rattle.tree_state.specs.Worlds.{CannotReopenAt, HasFailed}
use Rattle.tree_process.specs.Restarts.{ProcessRestartBreaks, RestartsNode, ProcessTrimBreaksOff, TrimsNode}
use Rattle.tree_world.specs.Nodes.{MovesAt, NodesSight, SameNodes}

-- of all processes one restarts
pub record RestartsAt (old new : NodesSight) (q : ProcessId) (bytes : Option ℕ)
    (made : ℕ × Reaction) : Type 0 where
  pub before : CoreState
  pub behind : CoreState
  pub moves : MovesAt old new q before behind
  pub restarts : RestartsNode before behind (new.data_at q) bytes made

-- of all processes the device of one failed in its restart
pub record RestartBreaksAt (old new : NodesSight) (q : ProcessId)
    (bytes : Option ℕ) : Type 0 where
  pub before : CoreState
  pub behind : CoreState
  pub moves : MovesAt old new q before behind
  pub breaks : ProcessRestartBreaks before behind bytes

-- why a process did not restart, and what that leaves of all
abbrev pub NoRestartAt : NodesSight → NodesSight → ProcessId → Option ℕ → StepError → Type 0
NoRestartAt old new q bytes Memory = SameNodes old new
NoRestartAt old new q bytes Device = RestartBreaksAt old new q bytes
NoRestartAt old new q bytes NoSuch = SameNodes old new × (old.node_at q ≡ None)
NoRestartAt old new q bytes Exhausted = SameNodes old new × CannotReopenAt (old.node_at q) bytes
NoRestartAt old new q bytes e = ⊥

-- of all processes one is trimmed
pub record TrimsAt (old new : NodesSight) (q : ProcessId) (remain : ℕ) : Type 0 where
  pub before : CoreState
  pub behind : CoreState
  pub moves : MovesAt old new q before behind
  pub trims : TrimsNode before behind (old.data_at q) (new.data_at q) remain

-- of all processes the device of one failed in a trim
pub record TrimBreaksAt (old new : NodesSight) (q : ProcessId) : Type 0 where
  pub before : CoreState
  pub behind : CoreState
  pub moves : MovesAt old new q before behind
  pub breaks : ProcessTrimBreaksOff before behind

-- why a process was not trimmed, and what that leaves of all
abbrev pub NoTrimAt : NodesSight → NodesSight → ProcessId → StepError → Type 0
NoTrimAt old new q Memory = SameNodes old new
NoTrimAt old new q Device = TrimBreaksAt old new q
NoTrimAt old new q Failed = SameNodes old new × HasFailed (old.node_at q)
NoTrimAt old new q NoSuch = SameNodes old new × (old.node_at q ≡ None)
NoTrimAt old new q e = ⊥
