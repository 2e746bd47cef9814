use Rattle.std.proofs.Common.{All, refl, subst}
use Rattle.cluster_journal.specs.Marks.{IsNotFree, NoneToClaim}
use Rattle.cluster_journal.proofs.Queued.{none_free}
use Rattle.cluster_journal.proofs.marks.Deliveries.claim.Goals as goal

pub returns-in-None-clause-none : goal.returns-in-None-clause-none
returns-in-None-clause-none c = (
  subst NoneToClaim c.self.view_is
      (none_free c.self.inside.marks.items c.self.inside.queues c.self.invariant.0
      (subst (λ l. All IsNotFree l) c.deref.ensures.value c.in-None.ensures.none)),
  refl,
)
