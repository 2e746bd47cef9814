use Rattle.std.proofs.Common.{◌≡◌, ◌+◌, ◌-◌, arith, length, subst}
use Rattle.std.proofs.lemmas.Grind.{common_steps}
use Rattle.cluster_journal.specs.Marks.{HasRoom}
use Rattle.cluster_journal.proofs.adding.add_all.Goals as goal

pub loop-place-preserved : goal.loop-place-preserved
loop-place-preserved c =
    let inv = c.loop-place.invariant in
    let lt = c.loop-place-test.true in
    let spare = inv.spare in
    let less = c.add_message.ensures.room.1 in
    let n = length c.args.messages.now in
    let p = c.loop-place.place in
    let left : n - p ≡ (n - (p + 1)) + 1 = omega (arith, lt) in
    record {
      queued = c.add_message.ensures.queued;
      named = c.add_message.ensures.named;
      items = grind (arith, common_steps, c.add_message.ensures.marks, inv.items);
      room = c.add_message.ensures.room.0 (n - (p + 1))
          (subst (λ k. HasRoom c.loop-place.marks c.loop-place.queues k) left inv.room);
      spare = omega (arith, spare, less, lt);
    }
