use Rattle.std.proofs.Common.{◌∙◌, ap, subst, sym}
use Rattle.cluster_journal.specs.Marks.{AreQueued, processes_of}
use Rattle.cluster_journal.proofs.Queued.{queued_same}
use Rattle.cluster_journal.proofs.marks.Deliveries.extend.Goals as goal

pub invariant_of-self-in_err-reserve-3 : goal.invariant_of-self-in_err-reserve-3
invariant_of-self-in_err-reserve-3 c =
    let q = c.self.inside.queues in
    let room = c.reserve-3.ensures in (
      subst (λ l. AreQueued l c.reserve-3.new.self) (sym c.reserve.ensures.items)
          (queued_same c.self.inside.marks.items q _ c.self.invariant.0 room.links
          room.receivers room.counts.0
          room.counts.1),
      c.reserve-2.ensures.keys ∙ c.self.invariant.1 ∙ ap processes_of (sym room.receivers),
    )

pub add_all-requires-clause-queued : goal.add_all-requires-clause-queued
add_all-requires-clause-queued c =
    let q = c.self.inside.queues in
    let room = c.reserve-3.ensures in
    subst (λ l. AreQueued l c.reserve-3.new.self) (sym c.reserve.ensures.items)
    (queued_same c.self.inside.marks.items q _ c.self.invariant.0 room.links room.receivers
    room.counts.0 room.counts.1)
