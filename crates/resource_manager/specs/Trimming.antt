-- A trim of a manager's log.
use Rattle.std.specs.Prelude.{◌≡◌, ◌⊎◌, ℕ, true, List, [], length}
use Rattle.xa_xid.specs.declared.xid.Xid.{Xid}
use Rattle.xa_assoc.specs.Answers.{SameStates}
use Rattle.protocol.specs.declared.records.LogRecord.{LogRecord}
use Rattle.log_store.specs.Stores.{MoreFailures}
use Rattle.log_rules.specs.trim.Trims.{trim_of}
use Rattle.log_records.specs.Sights.{LogSight, records_of}
use Rattle.process_state.specs.States.{forced_sight}
use Rattle.resource_manager.specs.Sights.{ManagerSight, SameData, SameManager}
use Rattle.resource_manager.specs.declared.errors.TrimError.{TrimError}
use Rattle.resource_manager.specs.declared.errors.TrimError.TheVariants.{Memory, Device, Failed}

-- the log that a trim leaves
abbrev pub trimmed : LogSight → List LogRecord
trimmed s = trim_of (records_of s.kept)

-- the log was trimmed, all of it forced, and nothing else moved; N records remain
pub record ManagerTrims (old new : ManagerSight) (remain : ℕ) : Type 0 where
  pub log : new.log ≡ forced_sight old.log.form (trimmed old.log) old.log.failures
  pub counts : remain ≡ length (trimmed old.log)
  pub tables : SameStates old.tables new.tables
  pub boot : new.boot ≡ old.boot
  pub spent : new.spent ≡ old.spent
  pub rest : SameData old new

-- the device failed in a trim: the old records stand, with their forced front, or the trimmed ones, all
-- forced
pub record ManagerTrimFails (old new : ManagerSight) : Type 0 where
  pub either : (new.log.kept ≡ old.log.kept)
      ⊎ (new.log.kept ≡ record { forced = trimmed old.log; unforced = [] })
  pub form : new.log.form ≡ old.log.form
  pub failed : new.log.failed ≡ true
  pub cause : MoreFailures old.log.failures new.log.failures
  pub tables : SameStates old.tables new.tables
  pub boot : new.boot ≡ old.boot
  pub decided : (x : Xid) → new.decided x ≡ old.decided x

-- why a manager's log was not trimmed, and what that leaves
abbrev pub ManagerNotTrimmed : ManagerSight → ManagerSight → TrimError → Type 0
ManagerNotTrimmed old new Memory = SameManager old new
ManagerNotTrimmed old new Device = ManagerTrimFails old new
ManagerNotTrimmed old new Failed = SameManager old new × (old.log.failed ≡ true)
