-- A manager over an empty log.
use Rattle.std.specs.Prelude.{◌≡◌, ℕ, List, [], ◌∷◌}
use Rattle.xa_xid.specs.declared.xid.Xid.{Xid}
use Rattle.xa_tables.specs.declared.states.InitState.TheVariants.{R0}
use Rattle.process_state.specs.States.{forced_sight}
use Rattle.process_state.specs.Opening.{first_opened}
use Rattle.resource_manager.specs.Sights.{ManagerSight}

-- a manager that was just made over an empty log: it is not open, this is its first boot, and the record of
-- that, which is forced, is its log's only one; it knows no branch, nothing is written, and no key is held
pub record IsNewManager (m : ManagerSight) : Type 0 where
  pub closed : m.tables.init ≡ R0
  pub boot : m.boot ≡ 1
  pub branches : m.tables.branches.branches ≡ []
  pub writes : (x : Xid) → m.writes x ≡ []
  pub holders : (k : List ℕ) → m.holders k ≡ []
  pub log : m.log ≡ forced_sight m.log.form (first_opened ∷ []) m.log.failures
