-- What a restart remembers of its log.
use Rattle.std.specs.Prelude.{◌≡◌, ℕ, List, Some}
use Rattle.xa_xid.specs.declared.xid.Xid.{Xid}
use Rattle.protocol.specs.declared.records.LogRecord.{LogRecord}
use Rattle.protocol.specs.Store.{data_of}
use Rattle.log_rules.specs.order.Orders.{SeenLog, in_doubt_by, promised}
use Rattle.kv_store.specs.Versions.{VersionTable}
use Rattle.kv_store.specs.writes.Writes.{writes_of}
use Rattle.xa_branch.specs.Cases.{DecisionTable}
use Rattle.kv_state.specs.Decisions.{KnowDecided}
use Rattle.kv_state.specs.Folds.{AreData}
use Rattle.kv_state.specs.Replays.{AreCountedCommits, HoldPromises, seen_of}
use Rattle.kv_state.specs.declared.replayed.Replayed.{Replayed}

-- what is remembered of a log: what its records have said, what operators decided, and the count and the
-- pairs of the data
pub record LogMemory : Type 0 where
  pub seen : SeenLog
  pub decisions : DecisionTable
  pub count : ℕ
  pub pairs : List (List ℕ × List ℕ)

-- that is what these records say
pub record RemembersData (ls : List LogRecord) (m : LogMemory) : Type 0 where
  pub read : seen_of ls ≡ Some m.seen
  pub decided : KnowDecided ls m.decisions
  pub count : m.count ≡ (data_of ls).count
  pub pairs : m.pairs ≡ (data_of ls).pairs
  pub counted : AreCountedCommits ls

-- it is what some records say
abbrev pub IsOfSome : LogMemory → Type 0
IsOfSome m = (ls : List LogRecord) × RemembersData ls m

-- what the records leave, but for what the data were before
pub record LeavesNow (ls : List LogRecord) (r : Replayed) : Type 0 where
  pub seen : SeenLog
  pub read : seen_of ls ≡ Some seen
  pub boots : r.boot ≡ seen.boot
  pub in_doubt : r.left.items ≡ in_doubt_by seen
  pub stored : AreData r.data (data_of ls)
  pub counted : AreCountedCommits ls
  pub promises : (x : Xid) → writes_of r.writes x ≡ promised seen x
  pub locks_held : HoldPromises seen r.locks
  pub decided : KnowDecided ls r.decisions

-- What the code keeps.

-- the records were read: what they have said, and the data that they make, but not what these were before
pub record ReadsNow (ls : List LogRecord) (s : SeenLog) (versions : VersionTable) : Type 0 where
  pub read : seen_of ls ≡ Some s
  pub stored : AreData versions (data_of ls)
  pub counted : AreCountedCommits ls

-- some records were read so
abbrev pub HasRead : SeenLog → VersionTable → Type 0
HasRead s versions = (ls : List LogRecord) × ReadsNow ls s versions
