use Rattle.std.proofs.Common.{◌≡◌, IfOk, None, map, subst, sym, ap, ◌∙◌}
use Rattle.protocol.specs.declared.messages.Message.TheVariants.{Prepare}
use Rattle.protocol.specs.Names.{child_case, root_case}
use Rattle.protocol.specs.CoordinatorRows.{Seat, post, prepares}
use Rattle.coord_case.proofs.Held.{prepares-each}
use Rattle.coord_case.proofs.live.Live.prepares.Goals as goal

pub returns : goal.returns
returns c =
    let seat : Seat = record { me = c.args.me; parent = None; own = root_case c.args.txn } in
    let e : prepares seat c.args.self.now
    ≡ map (λ d. post c.args.me d.ticket.child
    (Prepare (child_case c.args.txn d.ticket) d.works)) c.as_slice.result.now =
    sym (ap (prepares seat) c.self.view_is)
    ∙ prepares-each seat c.self.inside.standing c.self.inside.children.items c.self.inside.promised.items
    c.self.inside.named.items c.self.inside.owed.items c.self.inside.found.items c.self.invariant.distinct
    ∙ sym (ap (λ cs. map (λ d. post c.args.me d.ticket.child
    (Prepare (child_case c.args.txn d.ticket) d.works)) cs) c.as_slice.ensures) in
    subst (λ ms. IfOk c.prepare_each.result (λ messages. messages ≡ ms)) (sym e) c.prepare_each.ensures
