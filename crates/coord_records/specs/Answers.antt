-- What a child in doubt is told, by where its parent's case stands.
use Rattle.std.specs.Prelude.{Option, Some, None}
use Rattle.protocol.specs.declared.names.Outcome.{Outcome}
use Rattle.protocol.specs.declared.names.Outcome.TheVariants.{Committed, Aborted}
use Rattle.protocol.specs.declared.names.Presumption.{Presumption}
use Rattle.protocol.specs.declared.names.Ticket.{Ticket}
use Rattle.protocol.specs.declared.standings.Standing.{Standing}
use Rattle.protocol.specs.declared.standings.Standing.TheVariants.{Unknown, Committing, Aborting}
use Rattle.protocol.specs.CoordinatorRows.{Row, Seat, decided_inquiry, quiet}
use Rattle.protocol.specs.Names.{presumed}
use Rattle.protocol.specs.Standings.{CoordinatorView}

-- what an inquiry gets of a case that stands so, under this presumption; none while the case is undecided
abbrev pub answer_of : Standing → Presumption → Option Outcome
answer_of Committing p = Some Committed
answer_of Aborting p = Some Aborted
answer_of Unknown p = Some (presumed p)
answer_of _ p = None

-- the row of an inquiry that gets this answer: the child is told it, or nothing is said
abbrev pub answers_by : Seat → Ticket → CoordinatorView → Option Outcome → Row
answers_by s t v None = quiet v
answers_by s t v (Some o) = decided_inquiry s o t v
