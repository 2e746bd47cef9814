use Rattle.std.proofs.Common.{◌≡◌, drop, take}
use Rattle.log_script.specs.Faults.{first_damage}
use Rattle.audit_tree.proofs.Passes.{NotedTo}
use Rattle.audit_tree.proofs.logs.all_notes.Given as goal

abbrev pub invariant-loop-entry : goal.invariant-loop-entry
invariant-loop-entry l =
    (first_damage (drop l.entry-index l.entries) l.logs ≡ first_damage l.entries l.logs)
    × NotedTo l.tree l.logs (take l.entry-index l.entries) l.notes.entries
