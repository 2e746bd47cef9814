-- XIDs are the same exactly where they are equal.
use Rattle.std.proofs.Common.{◌≡◌, true, false, rules, arith}
use Rattle.xa_xid.specs.declared.xid.Xid.{Xid}
use Rattle.xa_branch.specs.Names.{same}

pub same_is : (a b : Xid) → same a b ≡ true → a ≡ b
same_is a b h = search rules

pub same_refl : (a : Xid) → same a a ≡ true
same_refl a = search rules

pub same_flips : (a b : Xid) → same a b ≡ false → same b a ≡ false
same_flips a b h = grind (arith, same_is b a, same_refl a)
