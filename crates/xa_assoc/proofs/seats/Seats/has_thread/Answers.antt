use Rattle.std.proofs.Common.{◌∙◌, ap, nat_eq, nat_lt}
use Rattle.xa_assoc.proofs.Counts.{any_counted}
use Rattle.xa_assoc.proofs.seats.Seats.has_thread.Goals as goal

pub returns-then-not-is_empty : goal.returns-then-not-is_empty
returns-then-not-is_empty c = ap (nat_lt 0) (c.count.ensures ∙ c.self.invariant.threads c.args.thread)
    ∙ rw (← c.self.view_is) (any_counted (λ s. nat_eq s.thread c.args.thread) c.self.inside.taken.keys)
