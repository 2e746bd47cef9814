-- A key store that is called by XA, without its log.
use Rattle.std.specs.Prelude.{◌≡◌, ◌-◌, ◌^◌, nat_lt, ℕ, Bool, true, false, is_some, List, [], ◌∷◌}
use Rattle.xa_tables.specs.declared.states.BranchState.{BranchState}
use Rattle.xa_tables.specs.declared.states.BranchState.TheVariants.{S0, S5}
use Rattle.xa_xid.specs.declared.xid.Xid.{Xid}
use Rattle.xa_assoc.specs.declared.states.States.{States}
use Rattle.xa_assoc.specs.Answers.{SameStates, state_at}
use Rattle.xa_assoc.specs.Restored.{Restored}
use Rattle.xa_branch.specs.Cases.{DecisionTable, SameDecisions, decision_in}
use Rattle.log_rules.specs.order.Orders.{names_key}
use Rattle.key_lists.specs.declared.holders.Mode.TheVariants.{Exclusive}
use Rattle.key_lists.specs.Holders.{holds}
use Rattle.kv_locks.specs.Locks.{LockTable, holders_of}
use Rattle.kv_store.specs.Versions.{Rebases, VersionTable}
use Rattle.kv_store.specs.writes.Writes.{SameWrites, WriteTable, writes_of}

-- what a contract sees: the tables of calls, what each branch at work has written, the locks, the data, and
-- what operators decided
pub record KeySight : Type 0 where
  pub tables : States
  pub writes : WriteTable
  pub locks : LockTable
  pub versions : VersionTable
  pub decisions : DecisionTable

-- the state of a branch
abbrev pub state_of : KeySight → Xid → BranchState
state_of s x = state_at s.tables x

-- the branch is not known, or an operator decided it
abbrev pub is_let_go : BranchState → Bool
is_let_go S0 = true
is_let_go S5 = true
is_let_go _ = false

-- an operator decided the branch
abbrev pub is_decided : BranchState → Bool
is_decided S5 = true
is_decided _ = false

-- a branch holds each key exclusively that it has written, one that is let go has written nothing and holds
-- nothing, and of one that an operator decided it is known how
pub record IsTidy (s : KeySight) : Type 0 where
  pub held : (x : Xid) (k : List ℕ) → names_key (writes_of s.writes x) k ≡ true
      → holders_of s.locks k ≡ record { xid = x; mode = Exclusive } ∷ []
  pub written : (x : Xid) → is_let_go (state_of s x) ≡ true → writes_of s.writes x ≡ []
  pub free : (x : Xid) (k : List ℕ) → is_let_go (state_of s x) ≡ true → holds (holders_of s.locks k) x ≡ false
  pub decided : (x : Xid) → is_decided (state_of s x) ≡ true → is_some (decision_in s.decisions x) ≡ true

-- nothing changes but room
pub record SameKeyStore (old new : KeySight) : Type 0 where
  pub tables : SameStates old.tables new.tables
  pub writes : SameWrites old.writes new.writes
  pub locks : new.locks ≡ old.locks
  pub versions : new.versions ≡ old.versions
  pub decisions : SameDecisions old.decisions new.decisions

-- what a call made of the tables, and of nothing else
pub record MovesTables (old new : KeySight) (Moves : States → States → Type 0) : Type 0 where
  pub tables : Moves old.tables new.tables
  pub writes : new.writes ≡ old.writes
  pub locks : new.locks ≡ old.locks
  pub versions : new.versions ≡ old.versions
  pub decisions : new.decisions ≡ old.decisions

-- what was before the last commit is forgotten, and nothing else moves
pub record RebasesStore (old new : KeySight) : Type 0 where
  pub versions : Rebases old.versions new.versions
  pub tables : new.tables ≡ old.tables
  pub writes : new.writes ≡ old.writes
  pub locks : new.locks ≡ old.locks
  pub decisions : new.decisions ≡ old.decisions

-- one commit more can be counted
abbrev pub has_numbers : KeySight → Bool
has_numbers s = nat_lt s.versions.count (2 ^ 63 - 1)

-- the store after a restart, with these branches in doubt
pub record Rebuilt (s : KeySight) (left : List (Xid × Bool)) (writes : WriteTable) (locks : LockTable)
    (versions : VersionTable) (decisions : DecisionTable) : Type 0 where
  pub tables : Restored left s.tables
  pub writes_left : s.writes ≡ writes
  pub locks_left : s.locks ≡ locks
  pub data_left : s.versions ≡ versions
  pub decided_left : s.decisions ≡ decisions
