-- A key store with a log, as a process sees the resource manager that it drives.
use Rattle.std.specs.Prelude.{◌≡◌, not}
use Rattle.xa_codes.specs.declared.code.Code.{Code}
use Rattle.xa_words.specs.code
use Rattle.resource_manager.specs.declared.errors.DecideError.{DecideError}
use Rattle.resource_manager.specs.declared.errors.DecideError.TheVariants as decides
use Rattle.resource_manager.specs.Sights.{ManagerSight}
use Rattle.kv_locks.specs.Locks.{holders_of}
use Rattle.kv_store.specs.writes.Writes.{writes_of}
use Rattle.kv_state.specs.Stores.{has_numbers}
use Rattle.kv_state.specs.Ends.{known_of}
use Rattle.resource_manager.specs.declared.errors.TrimError.{TrimError}
use Rattle.resource_manager.specs.declared.errors.TrimError.TheVariants as trims
use Rattle.log_records.specs.declared.log.LogError.{LogError}
use Rattle.log_records.specs.declared.log.LogError.TheVariants as log
use Rattle.kv_manager.specs.Sights.{KvSight}

-- a limit of its own is met where no commit more can be counted
abbrev pub sight_of : KvSight → ManagerSight
sight_of s = record {
  tables = s.store.tables;
  log = s.log.sight;
  boot = s.boot;
  spent = not (has_numbers s.store);
  writes = λ x. writes_of s.store.writes x;
  holders = λ k. holders_of s.store.locks k;
  decided = λ x. known_of s.store x;
}

-- why a turn of an operator's decision was not taken: the device failed, or no commit more can be counted
abbrev pub IsRefusal : Code → DecideError → Type 0
IsRefusal answer decides.Device = answer ≡ code.RmFail
IsRefusal answer decides.Exhausted = answer ≡ code.RmErr
IsRefusal answer _ = ⊥

-- why its log was not trimmed, where it was not written
abbrev pub trim_error : LogError → TrimError
trim_error log.Memory = trims.Memory
trim_error log.Device = trims.Device
