-- A key store with its log, as an XA manager.
use Rattle.std.specs.Prelude.{◌≡◌, ℕ, Bool, true, false, List, [], ◌∷◌, is_some}
use Rattle.xa_tables.specs.declared.states.BranchState.{BranchState}
use Rattle.xa_tables.specs.declared.states.BranchState.TheVariants.{S0, S3, S5}
use Rattle.xa_xid.specs.declared.xid.Xid.{Xid}
use Rattle.protocol.specs.declared.names.Kind.TheVariants.{Manager}
use Rattle.protocol.specs.declared.records.BranchName.TheVariants.{Foreign}
use Rattle.protocol.specs.Standings.{Promised, mark_at}
use Rattle.protocol.specs.Store.{Data, writes_of as promised_of, data_of}
use Rattle.log_records.specs.Sights.{LogState, records_of}
use Rattle.kv_store.specs.Pairs.{keys_rise}
use Rattle.kv_state.specs.Folds.{AreData}
use Rattle.kv_state.specs.Decisions.{says_decided}
use Rattle.xa_branch.specs.Decisions.{decided_in}
use Rattle.kv_store.specs.Versions.{SameData}
use Rattle.kv_store.specs.writes.Writes.{SameWrites, writes_of}
use Rattle.xa_assoc.specs.Answers.{SameStates}
use Rattle.xa_branch.specs.declared.decision.Decision.{Decision}
use Rattle.xa_branch.specs.Cases.{SameDecisions}
use Rattle.protocol.specs.declared.records.LogRecord.{LogRecord}
use Rattle.kv_state.specs.Stores.{KeySight, state_of}
use Rattle.kv_state.specs.Ends.{known_of}
use Rattle.kv_state.specs.Replays.{AreCountedCommits, seen_of}
use Rattle.resource_manager.specs.Restarting.{marked_state}

-- what a contract sees: the key store, its log, and how often it opened
pub record KvSight : Type 0 where
  pub store : KeySight
  pub log : LogState
  pub boot : ℕ

-- the data that the log's records make
abbrev pub logged : KvSight → Data
logged s = data_of (records_of s.log.sight.kept)

-- a branch's last record says that an operator decided it, and its records that it was decided so, and told
-- this
pub record SaysDecided (ls : List LogRecord) (x : Xid) (d : Decision) : Type 0 where
  pub says : says_decided (mark_at ls x) ≡ true
  pub how : d ≡ decided_in ls x

-- these records may follow one another
abbrev pub are_ordered : List LogRecord → Bool
are_ordered ls = is_some (seen_of ls)

-- there are records
abbrev pub has_records : List LogRecord → Bool
has_records [] = false
has_records (l ∷ ls) = true

-- the state of a branch in doubt; any other is as one that is not known
abbrev pub doubt_of : BranchState → BranchState
doubt_of S3 = S3
doubt_of S5 = S5
doubt_of _ = S0

-- the data are those that the log's records make, their keys rising; each prepared branch has the writes that
-- its record promised, and that is its last record; of each branch in S5 the decision is the one that its
-- records say; no other branch is in doubt by the records; and there are some
pub record IsLogged (s : KvSight) : Type 0 where
  pub are_data : AreData s.store.versions (logged s)
  pub rise : keys_rise (logged s).pairs ≡ true
  pub promises : (x : Xid) → state_of s.store x ≡ S3
      → writes_of s.store.writes x ≡ promised_of (Foreign x) (logged s).promised
  pub marked : (x : Xid) → state_of s.store x ≡ S3 → mark_at (records_of s.log.sight.kept) x ≡ Promised
  pub decided : (x : Xid) → state_of s.store x ≡ S5
      → SaysDecided (records_of s.log.sight.kept) x (known_of s.store x)
  pub doubts : (x : Xid) → doubt_of (state_of s.store x)
      ≡ marked_state (mark_at (records_of s.log.sight.kept) x)
  pub begun : has_records (records_of s.log.sight.kept) ≡ true

-- what a manager keeps: the log is a manager's, its records may follow one another, the data of each front of
-- them count fewer than 2^63 commits, and while it has not failed the data are those of its records
pub record IsKvManager (s : KvSight) : Type 0 where
  pub kind : s.log.sight.form.kind ≡ Manager
  pub ordered : are_ordered (records_of s.log.sight.kept) ≡ true
  pub counted : AreCountedCommits (records_of s.log.sight.kept)
  pub stands : s.log.sight.failed ≡ false → IsLogged s

-- nothing changes but room; what each key was after each commit stays
pub record SameKv (old new : KvSight) : Type 0 where
  pub tables : SameStates old.store.tables new.store.tables
  pub writes : SameWrites old.store.writes new.store.writes
  pub locks : new.store.locks ≡ old.store.locks
  pub versions : SameData old.store.versions new.store.versions
  pub decisions : SameDecisions old.store.decisions new.store.decisions
  pub log : new.log.sight ≡ old.log.sight
  pub boot : new.boot ≡ old.boot
