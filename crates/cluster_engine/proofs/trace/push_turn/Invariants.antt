use Rattle.std.proofs.Common.{◌≡◌, ◌+◌, ◌++◌, drop}
use Rattle.trace_lines.specs.Trace.{entries_text}
use Rattle.tree_engine.specs.Failures.{message_count}
use Rattle.cluster_ties.specs.Views.{entries_in}
use Rattle.cluster_engine.proofs.trace.push_turn.Given as goal

abbrev pub invariant-loop-place : goal.invariant-loop-place
invariant-loop-place l =
    (l.out.items ++ entries_text l.sent (entries_in (drop l.place l.turn))
    ≡ l.initial.out.items ++ entries_text l.before (entries_in l.turn))
    × (l.sent + message_count (entries_in (drop l.place l.turn))
    ≡ l.before + message_count (entries_in l.turn))
