use Rattle.std.proofs.Common.{subst}
use Rattle.xa_assoc.specs.Ready.{IsReadyCall}
use Rattle.kv_store.specs.writes.Writes.{ListedAt}
use Rattle.kv_state.specs.Stores.{KeySight}
use Rattle.kv_state.proofs.Turning.{is_due}
use Rattle.kv_state.proofs.store.KeyStore.due.Goals as goal

pub returns-clause-ok : goal.returns-clause-ok
returns-clause-ok c =
    let given = subst (λ (s : KeySight). IsReadyCall s.tables c.args.verb c.args.xid.now c.args.flags.0
    c.in_ok-call.call c.in_ok-call.place c.in_ok-call.from) c.self.view_is c.in_ok-call.ensures.ok in
    let listed = subst (λ (s : KeySight). ListedAt s.writes c.args.xid.now c.place-written.result)
    c.self.view_is
    c.place-written.ensures in
    let due = is_due c.args.self.now c.args.verb c.args.xid.now c.args.flags.0 c.in_ok-call.call c.turn.result
    c.requires given.checked c.turn.ensures in
    (c.in_ok-call.call, due, given.stands, listed)
