use Rattle.std.proofs.Common.{◌≡◌, ◌++◌, drop, take}
use Rattle.trace_lines.specs.Trace.{entries_text}
use Rattle.tree_world.specs.Worlds.{state}
use Rattle.tree_engine.specs.Failures.{message_count}
use Rattle.tree_engine.proofs.trace.push_entries.Given as goal

abbrev pub invariant-loop-place : goal.invariant-loop-place
invariant-loop-place l =
    (l.out.items ++ entries_text l.sent (drop l.place (state l.world).entries)
    ≡ l.initial.out.items ++ entries_text 0 (state l.world).entries)
    × (l.sent ≡ message_count (take l.place (state l.world).entries))
