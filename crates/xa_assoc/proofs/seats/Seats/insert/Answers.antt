use Rattle.std.proofs.Common.{arith, nat_eq, rules}
use Rattle.std.proofs.lemmas.List.Sums.{count_by-le-length}
use Rattle.xa_assoc.specs.Names.{same}
use Rattle.xa_branch.proofs.Names.{same_is}
use Rattle.xa_assoc.proofs.Counts.{counted_more, number_is}
use Rattle.xa_assoc.proofs.seats.Seats.insert.Goals as goal

pub overflow_add-of_thread : goal.overflow_add-of_thread
overflow_add-of_thread c =
    let most = count_by-le-length (λ s. nat_eq s.thread c.args.seat.thread) c.self.inside.taken.keys in
    let held = c.count-of_thread.ensures in
    let counted = c.self.invariant.threads c.args.seat.thread in
    omega (
      arith,
      most,
      held,
      counted,
      c.in_ok-insert.ensures.len,
      c.len-seats.ensures.len,
      c.len-seats.ensures.small,
    )

pub overflow_add-of_branch : goal.overflow_add-of_branch
overflow_add-of_branch c =
    let most = count_by-le-length (λ s. same s.xid c.args.seat.xid) c.self.inside.taken.keys in
    let held = c.count-of_branch.ensures in
    let counted = c.self.invariant.branches c.args.seat.xid in
    omega (
      arith,
      most,
      held,
      counted,
      c.in_ok-insert.ensures.len,
      c.len-seats.ensures.len,
      c.len-seats.ensures.small,
    )

pub invariant_of-self-2 : goal.invariant_of-self-2
invariant_of-self-2 c = record {
  threads = counted_more nat_eq (λ s. s.thread) number_is c.self.inside.taken.keys c.insert.new.self.keys
      c.self.inside.by_thread.entries c.recount.new.counts.entries c.args.seat
      c.self.invariant.threads (search rules) (search rules) (search rules);
  branches = counted_more same (λ s. s.xid) same_is c.self.inside.taken.keys c.insert.new.self.keys
      c.self.inside.by_branch.entries c.recount-2.new.counts.entries c.args.seat
      c.self.invariant.branches (search rules) (search rules) (search rules);
}
