use Rattle.std.proofs.Common.{◌≡◌, ◌++◌, take}
use Rattle.tree_journal.proofs.copies.copy_to.Given as goal

abbrev pub invariant-loop-envelope : goal.invariant-loop-envelope
invariant-loop-envelope l = l.sent.items ≡ l.initial.sent.items ++ take l.envelope-index l.fn.messages
