use Rattle.std.proofs.Common.{◌≡◌, ◌++◌, drop}
use Rattle.audit_tree.specs.Tables.{all_lines}
use Rattle.audit_tree.proofs.auditing.lines_of.Given as goal

abbrev pub invariant-loop-entry : goal.invariant-loop-entry
invariant-loop-entry l =
    l.lines.items ++ all_lines l.notes.entries l.said.entries (drop l.entry-index l.entries)
    ≡ all_lines l.notes.entries l.said.entries l.entries
