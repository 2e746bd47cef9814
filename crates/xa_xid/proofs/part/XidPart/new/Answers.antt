use Rattle.std.proofs.Common.{refl}
use Rattle.xa_xid.proofs.Parts.{part_of}
use Rattle.xa_xid.proofs.part.XidPart.new.Goals as goal

pub invariant_of-result : goal.invariant_of-result
invariant_of-result c = part_of c.args.bytes.now c.copy_from_slice.new.self _ c.requires
    c.copy_from_slice.ensures.after refl
