use Rattle.std.proofs.Common.{take}
use Rattle.audit_tree.specs.Tables.{SaidFor}
use Rattle.audit_tree.proofs.parents.all_sayings.Given as goal

abbrev pub invariant-loop-entry : goal.invariant-loop-entry
invariant-loop-entry l = SaidFor l.tree l.notes.entries (take l.entry-index l.entries) l.said.entries
