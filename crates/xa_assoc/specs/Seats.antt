-- The suspended associations, and what the code keeps beside them: how many each thread and each branch has.
use Rattle.std.specs.Prelude.{◌≡◌, ℕ, Bool, false, List, unwrap_or, nat_eq}
use Rattle.std.specs.List.{count_by, list_any}
use Rattle.std.specs.Map.{lookup}
use Rattle.xa_xid.specs.declared.xid.Xid.{Xid}
use Rattle.xa_assoc.specs.declared.held.Suspended.{Suspended}
use Rattle.xa_assoc.specs.Names.{same, same_seat}

-- a thread has suspended a branch
abbrev pub holds : List Suspended → Suspended → Bool
holds seats seat = list_any (same_seat seat) seats

-- a thread has suspended a branch from now on, or no longer, and this goes for no other
pub record Turns (old new : List Suspended) (seat : Suspended) (taken : Bool) : Type 0 where
  pub own : holds new seat ≡ taken
  pub others : (other : Suspended) → same_seat seat other ≡ false → holds new other ≡ holds old other

-- how often a key is counted
abbrev pub count_of : {K : Type 0} → (K → K → Bool) → List (K × ℕ) → K → ℕ
count_of same_key counts k = unwrap_or (lookup (same_key k) counts) 0

-- each thread, and each branch, is counted as often as it is in the list
pub record IsCounted (seats : List Suspended) (by_thread : List (ℕ × ℕ))
    (by_branch : List (Xid × ℕ)) : Type 0 where
  pub threads : (t : ℕ) → count_of nat_eq by_thread t ≡ count_by (λ s. nat_eq s.thread t) seats
  pub branches : (x : Xid) → count_of same by_branch x ≡ count_by (λ s. same s.xid x) seats
