use Rattle.std.proofs.Common.{◌≡◌, arith, get_or, []}
use Rattle.std.specs.Int.{w64, from_le_bytes}
use Rattle.xa_xid.proofs.Eights.{more, whole}
use Rattle.xa_xid.proofs.part.are_equal.Goals as goal

pub loop-i-preserved : goal.loop-i-preserved
loop-i-preserved c =
    let x : c.from_le_bytes.result ≡ from_le_bytes w64
    (get_or c.as_chunks.result.0.now c.loop-i.i []) = c.from_le_bytes.ensures in
    let y : c.from_le_bytes-in-loop-i.result ≡ from_le_bytes w64
    (get_or c.as_chunks-2.result.0.now c.loop-i.i []) =
    c.from_le_bytes-in-loop-i.ensures in
    more c.args.a.now c.args.b.now c.as_chunks.result.0.now c.as_chunks-2.result.0.now
    c.loop-i.i c.from_le_bytes.result
    c.from_le_bytes-in-loop-i.result c.told-a c.told-b c.fits-a c.fits-b c.as_chunks.ensures.front
    c.as_chunks-2.ensures.front (omega (arith, c.loop-i-test.true, c.requires)) c.loop-i.invariant x y
    c.if-from_le_bytes.false

pub returns-clause-yes : goal.returns-clause-yes
returns-clause-yes c is =
    whole c.args.a.now c.args.b.now c.as_chunks.result.0.now c.as_chunks-2.result.0.now
    c.args.count c.loop-i.i c.told-a c.told-b
    c.as_chunks.ensures.front c.as_chunks-2.ensures.front c.requires c.loop-i-test.false c.loop-i.invariant
