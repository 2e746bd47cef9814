use Rattle.std.proofs.Common.{◌≡◌, ◌++◌, take}
use Rattle.picture_layout.proofs.fates.push_copies.Given as goal

abbrev pub invariant-loop-envelope : goal.invariant-loop-envelope
invariant-loop-envelope l = l.out.items ≡ l.initial.out.items ++ take l.envelope-index l.messages
