-- Names are one exactly where their XIDs are.
use Rattle.std.proofs.Common.{◌≡◌, ◌↔◌, true, IsTrue, rules}
use Rattle.xa_xid.specs.declared.xid.Xid.{Xid}
use Rattle.log_rules.specs.trim.Tables.{same}

pub same_by_parts : (x y : Xid) → IsTrue (same x y) ↔ (x ≡ y)
same_by_parts x y = search rules

pub same_refl : (x : Xid) → same x x ≡ true
same_refl x = search rules
