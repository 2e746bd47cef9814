-- Who holds which key, and when a lock is given.
use Rattle.std.specs.Prelude.{◌≡◌, ℕ, Bool, true, Option, Some, None, List, [], position}
use Rattle.std.specs.Global.{Vec}
use Rattle.std.specs.List.{list_any}
use Rattle.std.specs.Map.{keys_of as map_keys, lookup}
use Rattle.xa_xid.specs.declared.xid.Xid.{Xid}
use Rattle.key_lists.specs.Holders.{blocked_by, given, holds, keeps_rule, same, without}
use Rattle.key_lists.specs.Tables.{Becomes, list_at, same_key}
use Rattle.key_lists.specs.declared.holders.Holder.{Holder}
use Rattle.key_lists.specs.declared.holders.Mode.{Mode}
use Rattle.kv_locks.specs.declared.locks.LockError.{LockError}
use Rattle.kv_locks.specs.declared.locks.LockError.TheVariants.{Held, Memory}

-- the keys that are held, each with its holders, the one that took it first at the front
abbrev pub LockTable : Type 0
LockTable = List (List ℕ × List Holder)

-- the holders of a key, in the order in which they took it
abbrev pub holders_of : LockTable → List ℕ → List Holder
holders_of t k = list_at t k

-- a branch takes a key in this mode
abbrev pub TakesKey : LockTable → LockTable → Xid → List ℕ → Mode → Type 0
TakesKey old new x k m = Becomes old new k (given (holders_of old k) x m)

-- a branch lets a key go
abbrev pub LetsKeyGo : LockTable → LockTable → Xid → List ℕ → Type 0
LetsKeyGo old new x k = Becomes old new k (without (holders_of old k) x)

-- the branch holds nothing any more, and all others hold what they held, in their order
pub record ReleasesLocks (old new : LockTable) (x : Xid) : Type 0 where
  pub each : (k : List ℕ) → holders_of new k ≡ without (holders_of old k) x

-- a lock was given: nobody was in its way
pub record GivesLock (old new : LockTable) (x : Xid) (k : List ℕ) (m : Mode) : Type 0 where
  pub free : blocked_by (holders_of old k) x m ≡ None
  pub made : TakesKey old new x k m

-- why a lock was not given; nothing changed
abbrev pub RefusesLock : LockTable → LockTable → Xid → List ℕ → Mode → LockError → Type 0
RefusesLock old new x k m (Held y) = (blocked_by (holders_of old k) x m ≡ Some y) × (new ≡ old)
RefusesLock old new x k m Memory = new ≡ old

-- the number of why a lock was not given
abbrev pub lock_number : LockError → ℕ
lock_number Memory = 1
lock_number (Held y) = 2

-- What the code keeps.

-- where a key is in the map
abbrev pub place_of : List (Vec ℕ × Vec Holder) → List ℕ → Option ℕ
place_of es k = position (λ held. same_key k held.items) (map_keys es)

-- the key is in the list
abbrev pub names_key : List (Vec ℕ) → List ℕ → Bool
names_key ks k = list_any (λ l. same_key l.items k) ks

-- the keys in a list, if there is one
abbrev pub keys_in : Option (Vec (Vec ℕ)) → List (Vec ℕ)
keys_in None = []
keys_in (Some v) = v.items

-- the keys listed for a branch
abbrev pub keys_of : List (Xid × Vec (Vec ℕ)) → Xid → List (Vec ℕ)
keys_of held x = keys_in (lookup (same x) held)

-- each key that was listed for a branch still is
abbrev pub KeepsKeys : List (Xid × Vec (Vec ℕ)) → List (Xid × Vec (Vec ℕ)) → Type 0
KeepsKeys old new =
    (y : Xid) (l : List ℕ) → names_key (keys_of old y) l ≡ true → names_key (keys_of new y) l ≡ true

-- all keys that a branch holds are among these
abbrev pub HoldsAtMost : LockTable → Xid → List (Vec ℕ) → Type 0
HoldsAtMost t x ks = (k : List ℕ) → holds (holders_of t k) x ≡ true → names_key ks k ≡ true

-- the lock rule holds of each key, and each key of a branch is listed for it
pub record IsLocks (t : LockTable) (held : List (Xid × Vec (Vec ℕ))) : Type 0 where
  pub rule : (k : List ℕ) → keeps_rule (holders_of t k) ≡ true
  pub listed : (x : Xid) → HoldsAtMost t x (keys_of held x)
