use Rattle.xa_xid.proofs.Parts.{told_by_eights}
use Rattle.xa_xid.proofs.part.XidPartPartialEq.eq.Goals as goal

pub returns-then-self-other : goal.returns-then-self-other
returns-then-self-other c =
    told_by_eights c.self.inside.len c.other.inside.len c.div_ceil.result c.self.inside.bytes
    c.other.inside.bytes c.args.self.now c.args.other.now c.are_equal.result c.self.invariant
    c.other.invariant c.if-self-other.true c.self.view_is c.other.view_is c.div_ceil.ensures
    c.are_equal.ensures.yes c.are_equal.ensures.no
