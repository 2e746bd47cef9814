use Rattle.std.proofs.Common.{◌≡◌, ◌++◌, drop}
use Rattle.trace_lines.specs.Trace.{entries_text}
use Rattle.tree_world.specs.Worlds.{state}
use Rattle.event_trace.specs.Numbered.{sent_after}
use Rattle.event_trace.proofs.steps.push_steps.Given as goal

abbrev pub invariant-loop-place : goal.invariant-loop-place
invariant-loop-place l =
    (l.out.items ++ entries_text l.next (drop l.place (state l.world).entries)
    ≡ l.initial.out.items ++ entries_text l.sent (drop l.from (state l.world).entries))
    × (sent_after l.next (drop l.place (state l.world).entries)
    ≡ sent_after l.sent (drop l.from (state l.world).entries))
