use Rattle.std.proofs.Common.{◌≡◌, ◌+◌, ◌++◌, drop}
use Rattle.protocol.specs.Texts.{envelope_lines}
use Rattle.trace_lines.specs.Trace.{lines_text}
use Rattle.trace_lines.proofs.trace.push_messages.Given as goal

abbrev pub invariant-loop-envelope : goal.invariant-loop-envelope
invariant-loop-envelope l =
    (l.number ≡ l.sent + l.envelope-index)
    × (l.out.items ++ lines_text (envelope_lines l.number (drop l.envelope-index l.messages))
    ≡ l.initial.out.items ++ lines_text (envelope_lines l.sent l.messages))
