use Rattle.std.proofs.Common.{[], take}
use Rattle.tree_state.specs.Runs.{EventsLead}
use Rattle.tree_faults.specs.Traces.{AddsToTrace, AreInPlace}
use Rattle.tree_world.specs.Worlds.{running_state}
use Rattle.tree_world.proofs.running_tree.RunningTree.make_all.Given as goal

abbrev pub invariant-loop-made : goal.invariant-loop-made
invariant-loop-made g l = EventsLead (running_state l.initial.self) (take l.made l.events)
    (running_state l.self)
    × AreInPlace (running_state l.self) l.self.faults
    × AddsToTrace (running_state l.initial.self) l.initial.self.faults (running_state l.self) l.self.faults []
