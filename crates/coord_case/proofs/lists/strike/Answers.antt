use Rattle.std.proofs.Common.{rules, not}
use Rattle.std.proofs.lemmas.Fn.{filter_same}
use Rattle.protocol.specs.Names.{same_ticket}
use Rattle.protocol.specs.CoordinatorRows.{other_tickets}
use Rattle.coord_case.proofs.lists.strike.Goals as goal

pub returns : goal.returns
unfolding other_tickets
returns c = filter_same _ (λ u. not (same_ticket c.args.ticket u)) _ (λ x b f h. search rules)
    _ _ c.retain.ensures.filtered
