-- Inquiries are answered as the reaction table says.
use Rattle.std.proofs.Common.{◌≡◌, refl}
use Rattle.protocol.specs.declared.names.Ticket.{Ticket}
use Rattle.protocol.specs.declared.standings.Standing.{Standing}
use Rattle.protocol.specs.declared.standings.Standing.TheVariants.{Unknown, Active, Collecting, Prepared, Committing, Aborting, Heuristic}
use Rattle.protocol.specs.CoordinatorRows.{Seat, on_inquiry}
use Rattle.protocol.specs.Standings.{CoordinatorView}
use Rattle.coord_records.specs.Answers.{answer_of, answers_by}

-- each standing's row is the one of its answer
pub answers_are : (s : Seat) (t : Ticket) (v : CoordinatorView) (st : Standing)
    → on_inquiry s t v st ≡ answers_by s t v (answer_of st s.own.txn.presumption)
answers_are s t v Unknown = refl
answers_are s t v Active = refl
answers_are s t v Collecting = refl
answers_are s t v Prepared = refl
answers_are s t v Committing = refl
answers_are s t v Aborting = refl
answers_are s t v Heuristic = refl
