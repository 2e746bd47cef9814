-- The data of a resource manager, as those see them that work at them: why they are in the way of an
-- operation, and what each piece of work leaves of them.
use Rattle.std.specs.Prelude.{◌≡◌, ◌⊎◌, ◌≤◌, ℕ, Bool, true, false, ◌==◌, ◌||◌, nat_lt, if◌then◌else◌, List, [], ◌∷◌, length, Option, Some, None}
use Rattle.std.specs.List.{AllByRecursion, IsDistinct}
use Rattle.xa_xid.specs.declared.xid.Xid.{Xid}
use Rattle.xa_tables.specs.declared.states.BranchState.{BranchState}
use Rattle.xa_tables.specs.declared.states.BranchState.TheVariants.{S0, S5}
use Rattle.xa_assoc.specs.declared.errors.WorkError.{WorkError}
use Rattle.xa_assoc.specs.declared.errors.WorkError.TheVariants.{Locked, TooLong, TooManyWrites}
use Rattle.key_lists.specs.declared.holders.Holder.{Holder}
use Rattle.key_lists.specs.declared.holders.Mode.{Mode}
use Rattle.key_lists.specs.declared.holders.Mode.TheVariants.{Exclusive, Shared}
use Rattle.key_lists.specs.Holders.{blocked_by, given, same, without}
use Rattle.key_lists.specs.Tables.{same_key}
use Rattle.log_rules.specs.order.Orders.{names_key}
use Rattle.protocol.specs.declared.messages.Op.{Op}
use Rattle.protocol.specs.declared.messages.Op.TheVariants.{Put, Get, Delete}
use Rattle.protocol.specs.declared.records.Write.{Write}
use Rattle.protocol.specs.Plays.{op_writes}

-- who holds a key, the one that took it first at the front
abbrev pub Holdings : Type 0
Holdings = List ℕ → List Holder

-- Operations.

-- the key that an operation is at
abbrev pub key_of : Op → List ℕ
key_of (Put k v) = k
key_of (Get k) = k
key_of (Delete k) = k

-- the lock that it takes
abbrev pub mode_of : Op → Mode
mode_of (Put k v) = Exclusive
mode_of (Get k) = Shared
mode_of (Delete k) = Exclusive

-- the value that it writes, if it writes one
abbrev pub value_of : Op → Option (List ℕ)
value_of (Put k v) = Some v
value_of (Get k) = None
value_of (Delete k) = None

-- What is in the way of an operation.

-- a value has more than 256 bytes
abbrev pub is_long : Option (List ℕ) → Bool
is_long None = false
is_long (Some v) = nat_lt 256 (length v)

-- a key has no bytes or more than 64, or the value has more than 256
abbrev pub is_too_long : List ℕ → Option (List ℕ) → Bool
is_too_long k v = (length k == 0) || nat_lt 64 (length k) || is_long v

-- a branch that has written these may write this key: it has, or it has written fewer than 64
abbrev pub is_within_limit : List Write → List ℕ → Bool
is_within_limit ws k = names_key ws k || nat_lt (length ws) 64

-- a write of another key beside 64 different ones
abbrev pub limit_refusal : List Write → List ℕ → Mode → Option WorkError
limit_refusal ws k Exclusive = if is_within_limit ws k then None else Some TooManyWrites
limit_refusal ws k Shared = None

-- the branch that is in the way of a lock, or what else refuses the work
abbrev pub unless_locked : Option Xid → Option WorkError → Option WorkError
unless_locked (Some y) other = Some (Locked y)
unless_locked None other = other

-- why an operation of a branch that has written these is refused, where these hold its key: the first reason
-- that applies
abbrev pub refusal_of : List Write → List Holder → Xid → Op → Option WorkError
refusal_of ws hs x op =
    if is_too_long (key_of op) (value_of op) then Some TooLong
    else unless_locked (blocked_by hs x (mode_of op)) (limit_refusal ws (key_of op) (mode_of op))

-- The data.

-- what each branch has written that is at work or prepared, in order of each key's first write; who holds
-- each key; and which branches the manager knows: those that began and are not ended
pub record ManagerData : Type 0 where
  pub writes : Xid → List Write
  pub holders : Holdings
  pub known : Xid → Bool

-- nothing is written, no key is held, and no branch is known
abbrev pub no_data : ManagerData
no_data = record { writes = λ x. []; holders = λ k. []; known = λ x. false }

-- a branch in this state is known
abbrev pub is_begun : BranchState → Bool
is_begun S0 = false
is_begun _ = true

-- there is no room for a branch more: 1,024 different ones are known
pub record IsFull (known : Xid → Bool) : Type 0 where
  pub branches : List Xid
  pub different : IsDistinct same branches
  pub each : AllByRecursion (λ x. known x ≡ true) branches
  pub many : 1024 ≤ length branches

-- whether a branch can begin: it can where it is not known, and there is room for one more
abbrev pub CanBegin : ManagerData → Xid → Bool → Type 0
CanBegin d x true = (d.known x ≡ false) × (IsFull d.known → ⊥)
CanBegin d x false = (d.known x ≡ true) ⊎ IsFull d.known

-- why these data are in the way of an operation of a branch
abbrev pub obstacle_in : ManagerData → Xid → Op → Option WorkError
obstacle_in d x op = refusal_of (d.writes x) (d.holders (key_of op)) x op

-- What work leaves.

-- a branch has written this, or nothing; no other has written anything
pub record Wrote (old new : ManagerData) (x : Xid) (ws : List Write) : Type 0 where
  pub own : new.writes x ≡ ws
  pub others : (y : Xid) → same x y ≡ false → new.writes y ≡ old.writes y

-- a branch did an operation: it holds the key now, and every other key is held as it was
pub record Locks (old new : Holdings) (x : Xid) (op : Op) : Type 0 where
  pub own : new (key_of op) ≡ given (old (key_of op)) x (mode_of op)
  pub others : (k : List ℕ) → same_key (key_of op) k ≡ false → new k ≡ old k

-- no branch began, and none is ended
abbrev pub StayKnown : ManagerData → ManagerData → Type 0
StayKnown old new = (y : Xid) → new.known y ≡ old.known y

-- a branch is known, or is not; of every other that is as it was
pub record KnowsBranch (old new : ManagerData) (x : Xid) (is_known : Bool) : Type 0 where
  pub own : new.known x ≡ is_known
  pub others : (y : Xid) → same x y ≡ false → new.known y ≡ old.known y

-- no branch has written anything, and each key is held as it was
pub record KeepsHolds (old new : ManagerData) : Type 0 where
  pub writes : (y : Xid) → new.writes y ≡ old.writes y
  pub holders : (k : List ℕ) → new.holders k ≡ old.holders k

-- nothing is written, each key is held as it was, and the same branches are known
pub record DataRests (old new : ManagerData) : Type 0 where
  pub keeps : KeepsHolds old new
  pub known : StayKnown old new

-- a branch began, and wrote nothing
pub record DataBegins (old new : ManagerData) (x : Xid) : Type 0 where
  pub keeps : KeepsHolds old new
  pub known : KnowsBranch old new x true

-- a branch wrote what an operation writes, and holds its key
pub record Operates (old new : ManagerData) (x : Xid) (op : Op) : Type 0 where
  pub wrote : Wrote old new x (op_writes (old.writes x) op)
  pub locks : Locks old.holders new.holders x op
  pub known : StayKnown old new

-- a branch let its writes and its keys go
pub record LetsHoldsGo (old new : ManagerData) (x : Xid) : Type 0 where
  pub wrote : Wrote old new x []
  pub held : (k : List ℕ) → new.holders k ≡ without (old.holders k) x

-- a branch let its writes and its keys go, and is known still
pub record ReleasesHolds (old new : ManagerData) (x : Xid) : Type 0 where
  pub lets_go : LetsHoldsGo old new x
  pub known : StayKnown old new

-- a branch let its writes and its keys go, and is ended
pub record Ends (old new : ManagerData) (x : Xid) : Type 0 where
  pub lets_go : LetsHoldsGo old new x
  pub known : KnowsBranch old new x false

-- the holders of a key after a call on a branch, which is in this state then: it holds nothing any more once
-- it is ended or decided by an operator
abbrev pub held_with : BranchState → Xid → List Holder → List Holder
held_with S0 x hs = without hs x
held_with S5 x hs = without hs x
held_with _ x hs = hs

-- each key of these writes is held by its branch, exclusively, and nothing else is held
pub record HoldWrites (writes : Xid → List Write) (holders : Holdings) : Type 0 where
  pub held : (x : Xid) (k : List ℕ) → names_key (writes x) k ≡ true
      → holders k ≡ record { xid = x; mode = Exclusive } ∷ []
  pub free : (k : List ℕ) → ((x : Xid) → names_key (writes x) k ≡ false) → holders k ≡ []
