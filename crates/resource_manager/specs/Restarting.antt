-- A manager after a crash: what the records say that are left of its log.
use Rattle.std.specs.Prelude.{◌≡◌, ◌≤◌, ◌+◌, ◌^◌, ℕ, Bool, None, List, [], ◌∷◌, ◌++◌, map}
use Rattle.xa_tables.specs.declared.states.BranchState.{BranchState}
use Rattle.xa_tables.specs.declared.states.BranchState.TheVariants.{S0, S3, S5}
use Rattle.xa_tables.specs.declared.states.InitState.TheVariants.{R0}
use Rattle.xa_xid.specs.declared.xid.Xid.{Xid}
use Rattle.xa_assoc.specs.Associations.{IsBare}
use Rattle.xa_assoc.specs.Answers.{SameStates, state_at}
use Rattle.xa_branch.specs.Decisions.{decided_in}
use Rattle.protocol.specs.declared.records.BranchName.TheVariants.{Foreign}
use Rattle.protocol.specs.declared.records.LogRecord.{LogRecord}
use Rattle.protocol.specs.declared.records.Record.TheVariants.{Opened}
use Rattle.protocol.specs.declared.records.Write.{Write}
use Rattle.protocol.specs.Records.{boot_of}
use Rattle.protocol.specs.Standings.{Mark, Unmarked, Promised, Decided, ToldOf, Finished, mark_at}
use Rattle.protocol.specs.Store.{writes_of, data_of}
use Rattle.log_records.specs.Sights.{LogRestartBreaks, left_by}
use Rattle.process_state.specs.States.{forced_sight}
use Rattle.resource_manager.specs.Data.{HoldWrites, is_begun}
use Rattle.resource_manager.specs.Sights.{ManagerSight, SameManager}
use Rattle.resource_manager.specs.Ends.{state_of}
use Rattle.resource_manager.specs.declared.errors.RestartError.{RestartError}
use Rattle.resource_manager.specs.declared.errors.RestartError.TheVariants.{Memory, Device, Exhausted}

-- What records say of a branch, by its XID.

-- the state of a branch by what its last record says: prepared, or decided by an operator, else gone
abbrev pub marked_state : Mark → BranchState
marked_state Promised = S3
marked_state Decided = S5
marked_state (ToldOf o) = S5
marked_state Unmarked = S0
marked_state Finished = S0

-- a branch that promised has the writes that it promised, and no other has any
abbrev pub marked_writes : Mark → List Write → List Write
marked_writes Promised ws = ws
marked_writes _ ws = []

-- what a branch has written by these records
abbrev pub writes_left : List LogRecord → Xid → List Write
writes_left ls x = marked_writes (mark_at ls x) (writes_of (Foreign x) (data_of ls).promised)

-- whether a branch is known by these records: it is prepared, or decided by an operator
abbrev pub is_left : List LogRecord → Xid → Bool
is_left ls x = is_begun (marked_state (mark_at ls x))

-- the boot after those of these records
abbrev pub next_boot : List LogRecord → ℕ
next_boot ls = boot_of (map (λ l. l.entry) ls) + 1

-- the record of a boot
abbrev pub boot_record : ℕ → LogRecord
boot_record n = record { entry = Opened n; parent = None }

-- these records with that of the next boot
abbrev pub with_boot : List LogRecord → List LogRecord
with_boot ls = ls ++ boot_record (next_boot ls) ∷ []

-- Restart.

-- a manager restarted, after a crash that kept N unforced bytes: it is not open, each branch is as the
-- records that are left say, with what an operator decided of it, those in doubt hold what they promised,
-- without associations and scans, and its log is these records and the next boot, all forced
pub record RestartsManager (old new : ManagerSight) (keep : ℕ) : Type 0 where
  pub closed : new.tables.init ≡ R0
  pub states : (x : Xid) → state_at new.tables x ≡ marked_state (mark_at (left_by old.log keep) x)
  pub scans : new.tables.branches.scans ≡ []
  pub associations : IsBare new.tables.associations
  pub seats : new.tables.associations.seats ≡ []
  pub writes : (x : Xid) → new.writes x ≡ writes_left (left_by old.log keep) x
  pub held : HoldWrites (writes_left (left_by old.log keep)) new.holders
  pub decided : (x : Xid) → state_at new.tables x ≡ S5
      → new.decided x ≡ decided_in (left_by old.log keep) x
  pub boot : new.boot ≡ next_boot (left_by old.log keep)
  pub log : new.log ≡ forced_sight old.log.form (with_boot (left_by old.log keep)) old.log.failures

-- the manager is as a restart left some manager, and is not open: its log has the records that were left, and
-- after them that of its boot
pub record IsRestarted (m : ManagerSight) : Type 0 where
  pub old : ManagerSight
  pub keep : ℕ
  pub restarts : RestartsManager old m keep

-- the device failed under a restart: it left the log as such a failure does, with the record of the next boot
-- or without; and nothing else changed
pub record ManagerRestartFails (old new : ManagerSight) (keep : ℕ) : Type 0 where
  pub log : LogRestartBreaks (state_of old.log) (state_of new.log) keep
      (boot_record (next_boot (left_by old.log keep)) ∷ [])
  pub tables : SameStates old.tables new.tables
  pub boot : new.boot ≡ old.boot
  pub decided : (x : Xid) → new.decided x ≡ old.decided x

-- why a manager did not restart, and what that leaves
abbrev pub ManagerNotRestarted : ManagerSight → ManagerSight → ℕ → RestartError → Type 0
ManagerNotRestarted old new keep Memory = SameManager old new
ManagerNotRestarted old new keep Device = ManagerRestartFails old new keep
ManagerNotRestarted old new keep Exhausted = SameManager old new × (2 ^ 63 ≤ next_boot (left_by old.log keep))
