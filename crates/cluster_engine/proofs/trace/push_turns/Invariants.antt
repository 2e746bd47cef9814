use Rattle.std.proofs.Common.{◌≡◌, ◌+◌, ◌++◌, drop}
use Rattle.trace_lines.specs.Trace.{entries_text}
use Rattle.cluster_turns.specs.Turns.{all_of}
use Rattle.tree_engine.specs.Failures.{message_count}
use Rattle.cluster_ties.specs.Views.{entries_in}
use Rattle.cluster_engine.proofs.trace.push_turns.Given as goal

abbrev pub invariant-loop-place : goal.invariant-loop-place
invariant-loop-place l =
    (l.out.items ++ entries_text l.sent (entries_in (all_of (drop l.place l.turns)))
    ≡ l.initial.out.items ++ entries_text 0 (entries_in (all_of l.turns)))
    × (l.sent + message_count (entries_in (all_of (drop l.place l.turns)))
    ≡ message_count (entries_in (all_of l.turns)))
