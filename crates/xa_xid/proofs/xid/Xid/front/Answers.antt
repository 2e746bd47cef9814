use Rattle.std.proofs.Common.{refl}
use Rattle.xa_xid.proofs.Reading.{reads}
use Rattle.xa_xid.proofs.xid.Xid.front.Goals as goal

pub returns-clause-ok : goal.returns-clause-ok
returns-clause-ok c =
    let w = reads c.args.bytes.now _ c.split_at.result.0.now c.split_at.result.1.now
    c.split_at-2.result.0.now c.from_be_bytes-format.result c.of_parts-xid.result
    c.in-len6-up.len_at_least (λ i. (c.type_inv.bytes i).fits) refl
    c.if-rest-gtrid.false c.split_at.ensures.front c.split_at.ensures.back c.split_at-2.ensures.front
    c.from_be_bytes-format.ensures c.of_parts-xid.ensures.value in
    (c.of_parts-xid.ensures.sound, w.0, w.1)
