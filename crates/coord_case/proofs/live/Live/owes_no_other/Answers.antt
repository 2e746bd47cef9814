use Rattle.coord_case.proofs.Owing.{none_of_others}
use Rattle.std.proofs.Common.{rules, ap, sym, ◌∙◌}
use Rattle.std.specs.List.{list_all}
use Rattle.protocol.specs.Names.{same_ticket}
use Rattle.coord_case.proofs.live.Live.owes_no_other.Goals as goal

pub returns : goal.returns
returns c =
    rw (← c.self.view_is) (c.all_are.ensures ∙ ap (λ ts. list_all (λ other. same_ticket c.args.ticket.now
    other) ts) (search rules) ∙ sym (none_of_others c.args.ticket.now c.self.inside.owed.items))
