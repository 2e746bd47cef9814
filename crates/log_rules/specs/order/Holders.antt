-- What the code keeps beside what has been seen: for each key the branch that promised it last.
use Rattle.std.specs.Prelude.{◌≡◌, ℕ, Bool, false, true, List, Option, Some, None}
use Rattle.std.specs.Global.{Vec}
use Rattle.std.specs.List.{AllByRecursion}
use Rattle.std.specs.Map.{lookup}
use Rattle.key_lists.specs.Tables.{same_key}
use Rattle.xa_xid.specs.declared.xid.Xid.{Xid}
use Rattle.log_rules.specs.declared.order.seen.Promise.{Promise}
use Rattle.log_rules.specs.order.Orders.{holds}

-- the branch that promised a key last
abbrev pub holder_of : List (Vec ℕ × Xid) → List ℕ → Option Xid
holder_of held k = lookup (λ q. same_key k q.items) held

-- there is a branch, it is open, and the key is of a write that it promised
abbrev pub holds_at : Option Promise → List ℕ → Bool
holds_at None k = false
holds_at (Some p) k = holds p k

-- the keys that a branch promised are listed for it, while it is open
abbrev pub IsListed : List (Vec ℕ × Xid) → Xid × Promise → Type 0
IsListed held e = (k : List ℕ) → holds e.1 k ≡ true → holder_of held k ≡ Some e.0

-- those of each branch are
pub record AreHolders (held : List (Vec ℕ × Xid)) (live : List (Xid × Promise)) : Type 0 where
  pub listed : AllByRecursion (IsListed held) live
