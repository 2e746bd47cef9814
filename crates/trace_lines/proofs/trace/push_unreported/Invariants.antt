use Rattle.std.proofs.Common.{◌≡◌, ◌++◌, drop}
use Rattle.trace_lines.specs.Trace.{unreported_words}
use Rattle.trace_lines.proofs.trace.push_unreported.Given as goal

abbrev pub invariant-loop-finding : goal.invariant-loop-finding
invariant-loop-finding l = l.out.items ++ unreported_words (drop l.finding-index l.findings)
    ≡ l.initial.out.items
    ++ unreported_words l.findings
