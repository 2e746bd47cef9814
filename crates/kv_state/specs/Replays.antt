-- What the records of a log leave of a key store.
use Rattle.std.specs.Prelude.{◌≡◌, ◌≤◌, ◌<◌, ◌+◌, ◌^◌, ◌⊎◌, ⊤, ℕ, Bool, true, false, List, [], ◌∷◌, ◌++◌, Option, Some, None, map}
use Rattle.std.specs.List.{IsDistinct}
use Rattle.std.specs.Map.{keys_of}
use Rattle.xa_xid.specs.declared.xid.Xid.{Xid}
use Rattle.protocol.specs.declared.records.BranchName.TheVariants.{Foreign}
use Rattle.protocol.specs.declared.records.LogRecord.{LogRecord}
use Rattle.protocol.specs.declared.records.Record.{Record}
use Rattle.protocol.specs.declared.records.Write.{Write}
use Rattle.protocol.specs.Store.{Data, no_data, stored_after, writes_of as writes_promised, data_of}
use Rattle.log_text.specs.declared.records.ReadFault.{ReadFault}
use Rattle.log_text.specs.declared.records.ReadFault.TheVariants as fault
use Rattle.log_rules.specs.order.Orders.{SeenLog, after, found, is_open, keys_once, in_doubt_by, names_key, nothing_seen, promised, same}
use Rattle.key_lists.specs.declared.holders.Mode.TheVariants.{Exclusive}
use Rattle.key_lists.specs.Holders.{blocked_by}
use Rattle.kv_locks.specs.Locks.{LockTable, holders_of}
use Rattle.kv_store.specs.writes.Writes.{AreWrites, WriteTable, writes_of}
use Rattle.kv_store.specs.Pairs.{keys_rise}
use Rattle.kv_store.specs.Versions.{VersionTable, value_at}
use Rattle.xa_branch.specs.Cases.{DecisionTable}
use Rattle.kv_state.specs.Decisions.{KnowDecided}
use Rattle.kv_state.specs.declared.fault.ReplayError.{ReplayError}
use Rattle.kv_state.specs.declared.fault.ReplayError.TheVariants.{Memory, Malformed, Exhausted}
use Rattle.kv_state.specs.Folds.{AreData, GoBack, base_after}
use Rattle.protocol.specs.LogNames.{by_xid}

-- what has been seen after some more records; none where one of them may not follow
unfoldable pub seen_after : Option SeenLog → List LogRecord → Option SeenLog
seen_after s [] = s
seen_after None (l ∷ ls) = None
seen_after (Some s) (l ∷ ls) = seen_after (after s l) ls

-- what the records of a log have said
abbrev pub seen_of : List LogRecord → Option SeenLog
seen_of ls = seen_after (Some nothing_seen) ls

-- each open branch holds the keys of its writes exclusively, and nothing else is held
pub record HoldPromises (s : SeenLog) (locks : LockTable) : Type 0 where
  pub held : (x : Xid) (k : List ℕ) → names_key (promised s x) k ≡ true
      → holders_of locks k ≡ record { xid = x; mode = Exclusive } ∷ []
  pub free : (k : List ℕ) → ((x : Xid) → names_key (promised s x) k ≡ false) → holders_of locks k ≡ []

-- these data count fewer than 2^63 commits, and so do those after each of these records
abbrev pub CountsFrom : Data → List Record → Type 0
CountsFrom d [] = d.count < 2 ^ 63
CountsFrom d (r ∷ rs) = (d.count < 2 ^ 63) × CountsFrom (stored_after d r) rs

-- the data of each front of the records count fewer than 2^63 commits
abbrev pub AreCountedCommits : List LogRecord → Type 0
AreCountedCommits ls = CountsFrom no_data (map by_xid ls)

-- what the records leave: the data that they make, of the branches in doubt their writes and locks, and what
-- operators decided
pub record ReplayLeaves (ls : List LogRecord) (boot : Option ℕ) (left : List (Xid × Bool))
    (versions : VersionTable)
    (writes : WriteTable) (locks : LockTable) (decisions : DecisionTable) : Type 0 where
  pub seen : SeenLog
  pub read : seen_of ls ≡ Some seen
  pub boots : boot ≡ seen.boot
  pub in_doubt : left ≡ in_doubt_by seen
  pub stored : AreData versions (data_of ls)
  pub history : GoBack versions ls
  pub counted : AreCountedCommits ls
  pub promises : (x : Xid) → writes_of writes x ≡ promised seen x
  pub locks_held : HoldPromises seen locks
  pub decided : KnowDecided ls decisions

-- an open branch promised what no branch can have written: more than 64 writes, or one that is out of range
pub record BreaksLimits (s : SeenLog) : Type 0 where
  pub branch : Xid
  pub breaks : AreWrites (promised s branch) → ⊥

-- a record may not follow those before it, or an open branch promised what no branch can have written
abbrev pub AreMalformed : List LogRecord → Type 0
AreMalformed ls = (seen_of ls ≡ None) ⊎ ((s : SeenLog) × (seen_of ls ≡ Some s) × BreaksLimits s)

-- the data of some records in front count 2^63 commits or more
pub record CountTooFar (ls : List LogRecord) : Type 0 where
  pub front : List LogRecord
  pub behind : List LogRecord
  pub parts : ls ≡ front ++ behind
  pub far : 2 ^ 63 ≤ (data_of front).count

-- why records leave nothing
abbrev pub ReplayFails : List LogRecord → ReplayError → Type 0
ReplayFails ls Memory = ⊤
ReplayFails ls Malformed = AreMalformed ls
ReplayFails ls Exhausted = CountTooFar ls

-- the number of why records leave nothing
abbrev pub replay_number : ReplayError → ℕ
replay_number Memory = 1
replay_number Malformed = 3
replay_number Exhausted = 4

-- What the code keeps.

-- a record that may not follow is malformed
abbrev pub error_of : ReadFault → ReplayError
error_of fault.Memory = Memory
error_of fault.Malformed = Malformed

-- all records were read: what they have said, and the data that they make
pub record Reads (ls : List LogRecord) (s : SeenLog) (versions : VersionTable) : Type 0 where
  pub read : seen_of ls ≡ Some s
  pub stored : AreData versions (data_of ls)
  pub history : GoBack versions ls
  pub counted : AreCountedCommits ls

-- the open branches' writes are those that the fold has, and its keys rise
pub record IsTied (s : SeenLog) (d : Data) : Type 0 where
  pub rise : keys_rise d.pairs ≡ true
  pub tied : (x : Xid) → is_open (found s x) ≡ true → writes_promised (Foreign x) d.promised ≡ promised s x

-- each branch stands once, and no key is promised twice
pub record IsOrderly (s : SeenLog) : Type 0 where
  pub distinct : IsDistinct same (keys_of s.live)
  pub once : (x : Xid) → keys_once (promised s x) ≡ true
  pub apart : (x y : Xid) (k : List ℕ) → same x y ≡ false → names_key (promised s x) k ≡ true
      → names_key (promised s y) k ≡ false

-- what records have said is orderly, and the fold over them has its promises
abbrev pub AreLawful : Type 0
AreLawful = (ls : List LogRecord) (s : SeenLog) → seen_of ls ≡ Some s → IsOrderly s × IsTied s (data_of ls)

-- the data take a record: where they were those of the records so far, they are those with it
abbrev pub DataTake : SeenLog → LogRecord → VersionTable → VersionTable → Type 0
DataTake s l old new = (d : Data) → IsTied s d → AreData old d → AreData new (stored_after d (by_xid l))

-- a record leaves what each key was after each commit before, back to its base
pub record KeepsBefore (old new : VersionTable) (r : Record) : Type 0 where
  pub base : new.base ≡ base_after old.base r
  pub before : (n : ℕ) → new.base ≤ n → n < new.count
      → (old.base ≤ n) × (n ≤ old.count) × ((k : List ℕ) → value_at new n k ≡ value_at old n k)

-- why the data do not take a record
abbrev pub TakeFails : SeenLog → LogRecord → VersionTable → ReplayError → Type 0
TakeFails s l old Memory = ⊤
TakeFails s l old Malformed = after s l ≡ None
TakeFails s l old Exhausted = (d : Data) → AreData old d → 2 ^ 63 ≤ (stored_after d (by_xid l)).count

-- why a commit is not made
abbrev pub CommitFails : VersionTable → ReplayError → Type 0
CommitFails old Memory = ⊤
CommitFails old Malformed = ⊥
CommitFails old Exhausted = 2 ^ 63 ≤ old.count + 1

-- no other branch holds a key of these writes
abbrev pub AreFree : LockTable → Xid → List Write → Type 0
AreFree t x ws = (k : List ℕ) → names_key ws k ≡ true → blocked_by (holders_of t k) x Exclusive ≡ None

-- a branch holds the keys of its writes exclusively, and the others are held as they were
pub record LocksKeys (old new : LockTable) (x : Xid) (ws : List Write) : Type 0 where
  pub own : (k : List ℕ) → names_key ws k ≡ true
      → holders_of new k ≡ record { xid = x; mode = Exclusive } ∷ []
  pub others : (k : List ℕ) → names_key ws k ≡ false → holders_of new k ≡ holders_of old k

-- why a branch is not given back what it promised
abbrev pub HoldFails : List Write → ReplayError → Type 0
HoldFails ws Memory = ⊤
HoldFails ws Malformed = AreWrites ws → ⊥
HoldFails ws Exhausted = ⊥

-- what the open branches hold
pub record Restores (s : SeenLog) (writes : WriteTable) (locks : LockTable) : Type 0 where
  pub promises : (x : Xid) → writes_of writes x ≡ promised s x
  pub locks_held : HoldPromises s locks

-- why they hold nothing
abbrev pub RestoreFails : SeenLog → ReplayError → Type 0
RestoreFails s Memory = ⊤
RestoreFails s Malformed = BreaksLimits s
RestoreFails s Exhausted = ⊥
