use Rattle.std.proofs.Common.{◌≡◌, take}
use Rattle.xa_xid.proofs.part.are_equal.Given as goal

abbrev pub invariant-loop-i : goal.invariant-loop-i
invariant-loop-i l = take l.i l.eights ≡ take l.i l.others
