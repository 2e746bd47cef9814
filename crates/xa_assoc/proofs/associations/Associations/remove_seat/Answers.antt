use Rattle.std.proofs.Common.{rules}
use Rattle.xa_assoc.proofs.associations.Associations.remove_seat.Goals as goal

pub returns-clause-turns : goal.returns-clause-turns
returns-clause-turns c = record {
  own = search rules;
  others = search rules;
  moved = search rules;
  moved_others = search rules;
  active = search rules;
  active_others = search rules;
  holders = search rules;
  migrates = search rules;
}
