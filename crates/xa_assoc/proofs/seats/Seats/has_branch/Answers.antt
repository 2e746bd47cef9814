use Rattle.std.proofs.Common.{◌∙◌, ap, nat_lt}
use Rattle.xa_assoc.specs.Names.{same}
use Rattle.xa_assoc.proofs.Counts.{any_counted}
use Rattle.xa_assoc.proofs.seats.Seats.has_branch.Goals as goal

pub returns-then-not-is_empty : goal.returns-then-not-is_empty
returns-then-not-is_empty c = ap (nat_lt 0) (c.count.ensures ∙ c.self.invariant.branches c.args.xid.now)
    ∙ rw (← c.self.view_is) (any_counted (λ s. same s.xid c.args.xid.now) c.self.inside.taken.keys)
