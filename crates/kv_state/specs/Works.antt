-- Reads and writes of a thread in the branch that it is active in.
use Rattle.std.specs.Prelude.{◌≡◌, ℕ, Bool, true, false, ◌==◌, ◌||◌, nat_lt, if◌then◌else◌, find, List, length, Option, Some, None}
use Rattle.xa_tables.specs.declared.states.BranchState.{BranchState}
use Rattle.xa_tables.specs.declared.states.BranchState.TheVariants.{S1, S4}
use Rattle.xa_tables.specs.Tables.{is_spoiled}
use Rattle.xa_xid.specs.declared.xid.Xid.{Xid}
use Rattle.xa_assoc.specs.Associations.{active_of}
use Rattle.xa_assoc.specs.Answers.{TakesTableRow}
use Rattle.xa_assoc.specs.declared.errors.WorkError.{WorkError}
use Rattle.xa_assoc.specs.declared.errors.WorkError.TheVariants.{Memory, NotAssociated, Locked, TooLong, TooManyWrites, RollbackOnly}
use Rattle.xa_branch.specs.Cases.{SameDecisions}
use Rattle.protocol.specs.declared.messages.Op.{Op}
use Rattle.protocol.specs.declared.messages.Op.TheVariants.{Put, Get, Delete}
use Rattle.protocol.specs.declared.records.Write.{Write}
use Rattle.protocol.specs.Plays.{with_write}
use Rattle.key_lists.specs.declared.holders.Mode.{Mode}
use Rattle.key_lists.specs.declared.holders.Mode.TheVariants.{Exclusive, Shared}
use Rattle.key_lists.specs.Holders.{blocked_by}
use Rattle.kv_locks.specs.Locks.{TakesKey, holders_of}
use Rattle.kv_store.specs.Versions.{value_at}
use Rattle.kv_store.specs.writes.Writes.{LeavesWrites, SameWrites, is_of, is_within_limit, writes_of}
use Rattle.kv_state.specs.Stores.{KeySight, SameKeyStore, state_of}

-- a branch that a thread is active in is at work (in S1), or its work failed (in S4)
abbrev pub working : BranchState → Xid → Option Xid
working S1 x = Some x
working S4 x = Some x
working _ x = None

-- the branch that a thread works for: the one that it is active in
abbrev pub worker_of : KeySight → Option Xid → Option Xid
worker_of s None = None
worker_of s (Some x) = working (state_of s x) x

-- the branch that a thread works for, if it works for one
abbrev pub at_work : KeySight → ℕ → Option Xid
at_work s t = worker_of s (active_of s.tables.associations t)

-- What refuses work: the first check that applies.

-- a value has more than 256 bytes
abbrev pub is_long : Option (List ℕ) → Bool
is_long None = false
is_long (Some v) = nat_lt 256 (length v)

-- a key has no bytes or more than 64, or the value has more than 256
abbrev pub is_too_long : List ℕ → Option (List ℕ) → Bool
is_too_long k v = (length k == 0) || nat_lt 64 (length k) || is_long v

-- a write of another key beside 64 different ones
abbrev pub limit_refusal : KeySight → Xid → List ℕ → Mode → Option WorkError
limit_refusal s x k Exclusive = if is_within_limit (writes_of s.writes x) k then None else Some TooManyWrites
limit_refusal s x k Shared = None

-- the branch that is in the way of a lock, or what else refuses the work
abbrev pub unless_locked : Option Xid → Option WorkError → Option WorkError
unless_locked (Some y) other = Some (Locked y)
unless_locked None other = other

-- why a branch may not read a key or write this value at it
abbrev pub branch_refusal : KeySight → List ℕ → Option (List ℕ) → Mode → Xid → Option WorkError
branch_refusal s k v m x =
    if is_spoiled (state_of s x) then Some RollbackOnly
    else if is_too_long k v then Some TooLong
    else unless_locked (blocked_by (holders_of s.locks k) x m) (limit_refusal s x k m)

-- why a thread may not: it is active in no branch, or its branch may not
abbrev pub refusal_by : KeySight → List ℕ → Option (List ℕ) → Mode → Option Xid → Option WorkError
refusal_by s k v m None = Some NotAssociated
refusal_by s k v m (Some x) = branch_refusal s k v m x

-- why a thread's work at a key is refused: the first check that fails; none where it is taken
abbrev pub work_refusal : KeySight → ℕ → List ℕ → Option (List ℕ) → Mode → Option WorkError
work_refusal s t k v m = refusal_by s k v m (at_work s t)

-- a refusal of work changes nothing; want of memory comes only where nothing else refuses it
abbrev pub IsRefusedWork : KeySight → KeySight → Option WorkError → WorkError → Type 0
IsRefusedWork old new refusal Memory = (refusal ≡ None) × SameKeyStore old new
IsRefusedWork old new refusal e = (refusal ≡ Some e) × SameKeyStore old new

-- a branch's work is refused for this where no other branch's lock is in its way; nothing changed
abbrev pub IsRefusedIfFree : KeySight → KeySight → Xid → List ℕ → Mode → WorkError → Type 0
IsRefusedIfFree old new x k m e =
    (blocked_by (holders_of old.locks k) x m ≡ None → IsRefusedWork old new (limit_refusal old x k m) e)
    × SameKeyStore old new

-- What work does.

-- the value that a write leaves, or else the one that is there
abbrev pub left_or : Option Write → Option (List ℕ) → Option (List ℕ)
left_or None there = there
left_or (Some w) there = w.value

-- what a branch finds at a key: its own write comes before the data
abbrev pub value_for : KeySight → Xid → List ℕ → Option (List ℕ)
value_for s x k = left_or (find (is_of k) (writes_of s.writes x)) (value_at s.versions s.versions.count k)

-- a thread read a key, which its branch holds now, at least shared
pub record ReadsKey (old new : KeySight) (t : ℕ) (k : List ℕ) (found : Option (List ℕ)) : Type 0 where
  pub branch : Xid
  pub works : at_work old t ≡ Some branch
  pub allowed : branch_refusal old k None Shared branch ≡ None
  pub value : found ≡ value_for old branch k
  pub locks : TakesKey old.locks new.locks branch k Shared
  pub tables : new.tables ≡ old.tables
  pub writes : new.writes ≡ old.writes
  pub versions : new.versions ≡ old.versions
  pub decisions : new.decisions ≡ old.decisions

-- a thread wrote a key, which its branch holds exclusively now; the data do not change before it commits
pub record WritesKey (old new : KeySight) (t : ℕ) (k : List ℕ) (v : Option (List ℕ)) : Type 0 where
  pub branch : Xid
  pub works : at_work old t ≡ Some branch
  pub allowed : branch_refusal old k v Exclusive branch ≡ None
  pub locks : TakesKey old.locks new.locks branch k Exclusive
  pub writes : LeavesWrites old.writes new.writes branch (with_write (writes_of old.writes branch) k v)
  pub tables : new.tables ≡ old.tables
  pub versions : new.versions ≡ old.versions
  pub decisions : new.decisions ≡ old.decisions

-- Work of a branch that no thread is in.

-- a branch read a key, which it holds now, at least shared
pub record ReadsFor (old new : KeySight) (x : Xid) (k : List ℕ) (found : Option (List ℕ)) : Type 0 where
  pub allowed : branch_refusal old k None Shared x ≡ None
  pub value : found ≡ value_for old x k
  pub locks : TakesKey old.locks new.locks x k Shared
  pub tables : new.tables ≡ old.tables
  pub writes : new.writes ≡ old.writes
  pub versions : new.versions ≡ old.versions
  pub decisions : new.decisions ≡ old.decisions

-- a branch wrote a key, which it holds exclusively now
pub record WritesFor (old new : KeySight) (x : Xid) (k : List ℕ) (v : Option (List ℕ)) : Type 0 where
  pub allowed : branch_refusal old k v Exclusive x ≡ None
  pub locks : TakesKey old.locks new.locks x k Exclusive
  pub writes : LeavesWrites old.writes new.writes x (with_write (writes_of old.writes x) k v)
  pub tables : new.tables ≡ old.tables
  pub versions : new.versions ≡ old.versions
  pub decisions : new.decisions ≡ old.decisions

-- why an operation of a branch is refused: the first check that fails
abbrev pub op_refusal : KeySight → Xid → Op → Option WorkError
op_refusal s x (Put k v) = branch_refusal s k (Some v) Exclusive x
op_refusal s x (Get k) = branch_refusal s k None Shared x
op_refusal s x (Delete k) = branch_refusal s k None Exclusive x

-- a branch did an operation; a value that it read is not kept
abbrev pub DoesOperation : KeySight → KeySight → Xid → Op → Type 0
DoesOperation old new x (Put k v) = WritesFor old new x k (Some v)
DoesOperation old new x (Get k) = (found : Option (List ℕ)) × ReadsFor old new x k found
DoesOperation old new x (Delete k) = WritesFor old new x k None

-- a branch was refused an operation, and can only be rolled back
pub record Spoils (old new : KeySight) (x : Xid) (op : Op) : Type 0 where
  pub refused : op_refusal old x op ≡ None → ⊥
  pub tables : TakesTableRow old.tables new.tables x S4
  pub writes : SameWrites old.writes new.writes
  pub locks : new.locks ≡ old.locks
  pub versions : new.versions ≡ old.versions
  pub decisions : SameDecisions old.decisions new.decisions

-- whether an idle branch did an operation, and what that leaves
abbrev pub KeyStoreWorksIdle : KeySight → KeySight → Xid → Op → Bool → Type 0
KeyStoreWorksIdle old new x op true = DoesOperation old new x op
KeyStoreWorksIdle old new x op false = Spoils old new x op
