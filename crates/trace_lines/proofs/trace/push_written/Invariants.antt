use Rattle.std.proofs.Common.{◌≡◌, ◌++◌, drop}
use Rattle.protocol.specs.Texts.{logged_lines}
use Rattle.trace_lines.specs.Trace.{lines_text}
use Rattle.trace_lines.proofs.trace.push_written.Given as goal

abbrev pub invariant-loop-logged : goal.invariant-loop-logged
invariant-loop-logged l =
    l.out.items ++ lines_text (logged_lines l.process (drop l.logged-index l.written))
    ≡ l.initial.out.items ++ lines_text (logged_lines l.process l.written)
