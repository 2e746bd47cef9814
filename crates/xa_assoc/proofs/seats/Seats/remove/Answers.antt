use Rattle.std.proofs.Common.{arith, nat_eq, rules}
use Rattle.xa_assoc.specs.Names.{same}
use Rattle.xa_branch.proofs.Names.{same_is}
use Rattle.xa_assoc.proofs.Counts.{counted_less, counted_one, number_is}
use Rattle.xa_assoc.proofs.seats.Seats.remove.Goals as goal

pub overflow_sub-of_thread : goal.overflow_sub-of_thread
overflow_sub-of_thread c =
    let some = counted_one (λ s. nat_eq s.thread c.args.seat.now.thread) c.self.inside.taken.keys
    c.args.seat.now (search rules) (search rules) in
    let held = c.count-of_thread.ensures in
    let counted = c.self.invariant.threads c.args.seat.now.thread in
    omega (arith, some, held, counted)

pub overflow_sub-of_branch : goal.overflow_sub-of_branch
overflow_sub-of_branch c =
    let some = counted_one (λ s. same s.xid c.args.seat.now.xid) c.self.inside.taken.keys c.args.seat.now
    (search rules) (search rules) in
    let held = c.count-of_branch.ensures in
    let counted = c.self.invariant.branches c.args.seat.now.xid in
    omega (arith, some, held, counted)

pub invariant_of-self : goal.invariant_of-self
invariant_of-self c = record {
  threads = counted_less nat_eq (λ s. s.thread) number_is c.self.inside.taken.keys c.swap_remove.new.self.keys
      c.self.inside.by_thread.entries c.recount.new.counts.entries c.args.seat.now
      c.self.invariant.threads (search rules) (search rules) (search rules) (search rules);
  branches = counted_less same (λ s. s.xid) same_is c.self.inside.taken.keys c.swap_remove.new.self.keys
      c.self.inside.by_branch.entries c.recount-2.new.counts.entries c.args.seat.now
      c.self.invariant.branches (search rules) (search rules) (search rules) (search rules);
}
