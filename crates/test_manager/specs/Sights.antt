-- What is seen of a manager that refuses some branches.
use Rattle.std.specs.Prelude.{◌≡◌, Bool, true, false}
use Rattle.resource_manager.specs.Sights.{ManagerSight}

-- a manager that may refuse to finish any branch: it is the other one, and a limit of its own is met
abbrev pub limited : ManagerSight → ManagerSight
limited m = record {
  tables = m.tables;
  log = m.log;
  boot = m.boot;
  spent = true;
  writes = m.writes;
  holders = m.holders;
  decided = m.decided;
}

-- it was told to refuse a branch, and its device has not failed
pub record RefusesIt (m : ManagerSight) (is_told : Bool) : Type 0 where
  pub told : is_told ≡ true
  pub up : m.log.failed ≡ false
