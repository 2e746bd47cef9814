-- A row that is not taken.
use Rattle.std.proofs.Common.{◌+◌, Result, Ok, Err, IfErr, arith}
use Rattle.protocol.specs.declared.events.StepError.{StepError}
use Rattle.protocol_words.specs.step_error
use Rattle.protocol.specs.declared.messages.Op.{Op}
use Rattle.protocol.specs.declared.names.Ticket.{Ticket}
use Rattle.protocol.specs.CoordinatorRows.{Row, active_work}
use Rattle.protocol.specs.Memory.{works_of}
use Rattle.protocol.specs.Standings.{CoordinatorView}
use Rattle.coord_effects.specs.declared.effect.RowEffect.{RowEffect}
use Rattle.coord_effects.specs.declared.seat.OwnCase.{OwnCase}
use Rattle.coord_effects.specs.Rows.{NotWritten, seat_meant}
use Rattle.coord_rows.specs.Works.{NotSent}
use Rattle.coord_rows.specs.Asks.{RowNotTaken}

-- no log holds its records
pub unwritten_so : (s : OwnCase) (row : Row) (r : Result RowEffect StepError)
    → IfErr r (NotWritten s.parent row.written) → IfErr r (RowNotTaken s row)
unwritten_so s row (Ok effect) h = h
unwritten_so s row (Err step_error.Memory) h = tt
unwritten_so s row (Err step_error.Exhausted) h = λ fits. h fits.records
unwritten_so s row (Err e) h = absurd h

-- its work is not counted
pub unsent_so : (s : OwnCase) (t : Ticket) (op : Op) (v : CoordinatorView) (r : Result RowEffect StepError)
    → IfErr r (NotSent (works_of v.works t + 1)) → IfErr r (RowNotTaken s (active_work (seat_meant s) t op v))
unsent_so s t op v (Ok effect) h = h
unsent_so s t op v (Err step_error.Memory) h = tt
unsent_so s t op v (Err step_error.Exhausted) h = λ fits. absurd (omega (arith, h, fits.works.0))
unsent_so s t op v (Err e) h = absurd h
