use Rattle.std.proofs.Common.{◌∙◌, ap}
use Rattle.xa_xid.proofs.Digests.{whole}
use Rattle.xa_xid.proofs.part.XidPart.digest.Goals as goal
use Rattle.xa_xid.specs.Digests.{part_digest}

pub returns : goal.returns
returns c =
    whole c.args.before c.loop-bytes.digest c.mixed-digest.result c.self.inside.len c.div_ceil.result
    c.loop-bytes.bytes-index c.self.inside.bytes c.as_chunks.result.0.now c.self.invariant
    c.as_chunks.ensures.front c.div_ceil.ensures c.mixed-digest.ensures c.loop-bytes-test.false
    c.loop-bytes.invariant
    ∙ ap (part_digest c.args.before) c.self.view_is
