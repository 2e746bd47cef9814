-- What the record of a decision names.
use Rattle.std.proofs.Common.{◌≡◌, List, refl}
use Rattle.protocol.specs.declared.names.Case.{Case}
use Rattle.protocol.specs.declared.names.Outcome.{Outcome}
use Rattle.protocol.specs.declared.names.Outcome.TheVariants.{Committed, Aborted}
use Rattle.protocol.specs.declared.names.Ticket.{Ticket}
use Rattle.coord_effects.specs.Rows.{decision, decision_names}

pub names_decided : (c : Case) (o : Outcome) (ts : List Ticket) → decision_names (decision c o ts) ≡ ts
names_decided c Committed ts = refl
names_decided c Aborted ts = refl
