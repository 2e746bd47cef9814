-- What a turn makes of a coordinator, and what stops it.
use Rattle.std.specs.Prelude.{◌≡◌, ◌≢◌, Option, Some, None, List, [], ◌∷◌}
use Rattle.protocol.specs.declared.records.LogRecord.{LogRecord}
use Rattle.protocol.specs.declared.events.Input.{Input}
use Rattle.protocol.specs.declared.events.Reaction.{Reaction}
use Rattle.protocol.specs.declared.events.StepError.{StepError}
use Rattle.protocol.specs.declared.events.StepError.TheVariants.{Memory, Device, Exhausted}
use Rattle.protocol.specs.Nodes.{Effect, reaction_of}
use Rattle.protocol.specs.Reactions.{Does}
use Rattle.log_text.specs.Made.{frame_record}
use Rattle.log_records.specs.Sights.{LogState}
use Rattle.process_state.specs.States.{CoreState, SameCore, wrote}
use Rattle.process_state.specs.Turns.{Turn, Refuses, no_answer, reacted}
use Rattle.process_state.specs.Makes.{BreaksIn, IsBroken, IsWithinBounds, ProcessMoves}
use Rattle.coord_effects.specs.declared.effect.RowFrame.{RowFrame}
use Rattle.coord_effects.specs.Rows.{written_of}

-- the turn of the input was made, and this is the reaction to show
pub record Turned (old new : CoreState) (i : Input) (turn : Turn) (reaction : Reaction) : Type 0 where
  pub moves : ProcessMoves old new i turn
  pub effect : Effect
  pub does : reacted turn ≡ Does effect
  pub shown : reaction ≡ reaction_of effect

-- what the turn does is beyond the bounds of numbers at this process
pub record IsUnbounded (s : CoreState) (turn : Turn) : Type 0 where
  pub effect : Effect
  pub does : reacted turn ≡ Does effect
  pub beyond : IsWithinBounds s effect → ⊥

-- the device failed in the turn, under a record
pub record BreaksUnder (old new : CoreState) (turn : Turn) : Type 0 where
  pub breaks : BreaksIn old new turn
  pub writes : breaks.0.written ≢ []

-- the device failed in the turn of the input, under a record
pub record IsBrokenUnder (old new : CoreState) (i : Input) : Type 0 where
  pub broken : IsBroken old new no_answer i
  pub writes : broken.breaks.0.written ≢ []

-- what stopped the turn: for want of memory nothing changed, nor where it does not fit the bounds of numbers;
-- or the device failed; or the turn is this refusal, and nothing changed
abbrev pub Stopped : CoreState → CoreState → Turn → StepError → Type 0
Stopped old new turn Memory = SameCore old new
Stopped old new turn Device = BreaksUnder old new turn
Stopped old new turn Exhausted = SameCore old new × IsUnbounded old turn
Stopped old new turn e = SameCore old new × (turn ≡ Refuses e)

-- the records of frames, as the log holds them
abbrev pub framed_of : Option RowFrame → List LogRecord
framed_of None = []
framed_of (Some w) = frame_record w.frame ∷ []

-- a row's record is in the log, if it has one
pub record WritesDown (old new : LogState) (written : Option RowFrame) : Type 0 where
  pub sight : new.sight ≡ wrote old.sight (written_of written) (framed_of written)
