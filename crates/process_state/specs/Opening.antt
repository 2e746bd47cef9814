-- A process that opened an empty log.
use Rattle.std.specs.Prelude.{◌≡◌, ℕ, None, [], ◌∷◌}
use Rattle.protocol.specs.declared.records.LogRecord.{LogRecord}
use Rattle.protocol.specs.declared.records.Record.TheVariants.{Opened}
use Rattle.protocol.specs.Nodes.{Place}
use Rattle.process_state.specs.States.{CoreState, forced_sight, form_of}
use Rattle.process_state.specs.Restarting.{ReadOff}

-- the first record of a log
abbrev pub first_opened : LogRecord
first_opened = record { entry = Opened 1; parent = None }

-- a process that opened an empty log over a device that failed so often: it stands as its one record says,
-- which is forced
pub record IsOpenedProcess (s : CoreState) (place : Place) (failures : ℕ) : Type 0 where
  pub place_is : s.place ≡ place
  pub log : s.log ≡ forced_sight (form_of place) (first_opened ∷ []) failures
  pub read : ReadOff s (Opened 1 ∷ [])
