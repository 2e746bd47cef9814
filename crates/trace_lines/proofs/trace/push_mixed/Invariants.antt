use Rattle.std.proofs.Common.{◌≡◌, ◌++◌, drop}
use Rattle.trace_lines.specs.Trace.{mixed_words}
use Rattle.trace_lines.proofs.trace.push_mixed.Given as goal

abbrev pub invariant-loop-finding : goal.invariant-loop-finding
invariant-loop-finding l = l.out.items ++ mixed_words (drop l.finding-index l.findings) ≡ l.initial.out.items
    ++ mixed_words l.findings
