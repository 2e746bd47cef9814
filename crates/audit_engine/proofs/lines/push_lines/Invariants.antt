use Rattle.std.proofs.Common.{◌≡◌, ◌++◌, drop}
use Rattle.audit_engine.specs.Lines.{lines_text}
use Rattle.audit_engine.proofs.lines.push_lines.Given as goal

abbrev pub invariant-loop-line : goal.invariant-loop-line
invariant-loop-line l =
    l.out.items ++ lines_text (drop l.line-index l.lines) ≡ l.initial.out.items ++ lines_text l.lines
