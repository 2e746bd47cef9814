use Rattle.std.proofs.Common.{◌≡◌, ◌++◌, drop}
use Rattle.std.specs.Option.{option_copied}
use Rattle.protocol.specs.Nodes.{role_by}
use Rattle.audit_tree.specs.Tables.{lines_by, lines_in}
use Rattle.audit_tree.proofs.auditing.push_cases.Given as goal

abbrev pub invariant-loop-case : goal.invariant-loop-case
invariant-loop-case l =
    l.lines.items ++ lines_by (role_by l.entry.kind l.entry.parent) (option_copied l.fn.above) l.fn.own.table
    (drop l.case-index l.case-items)
    ≡ l.fn.lines.items ++ lines_in (role_by l.entry.kind l.entry.parent) (option_copied l.fn.above) l.fn.own
