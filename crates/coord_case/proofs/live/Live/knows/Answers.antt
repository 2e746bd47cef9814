use Rattle.coord_case.proofs.Children.{any_accepted}
use Rattle.std.proofs.Common.{rules, ◌≡◌, ◌||◌, ap, sym, ◌∙◌}
use Rattle.std.specs.List.{list_any}
use Rattle.protocol.specs.Names.{same_ticket}
use Rattle.protocol.specs.Records.{in_list}
use Rattle.coord_case.proofs.live.Live.knows.Goals as goal

pub returns : goal.returns
unfolding in_list
returns c =
    let named : c.deref.result.now ≡ c.self.inside.named.items = search rules in
    rw (← c.self.view_is) (c.is_known.ensures
    ∙ (λ i. list_any (λ d. same_ticket d.ticket c.args.ticket.now) (c.as_slice.ensures i)
    || in_list (named i) c.args.ticket.now)
    ∙ ap (λ b. b || in_list c.self.inside.named.items c.args.ticket.now)
    (sym (any_accepted (λ t. same_ticket t c.args.ticket.now) c.self.inside.children.items)))
