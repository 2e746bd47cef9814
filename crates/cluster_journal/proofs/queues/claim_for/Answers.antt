use Rattle.std.proofs.Common.{◌≡◌, ◌<◌, ◌≤◌, ◌∙◌, ap, length, refl, subst, sym, true}
use Rattle.std.specs.Prelude.{slice_get}
use Rattle.cluster_journal.specs.Marks.{AreQueued, IsFree, IsTold, NoneOpen, is_open_by, is_to, processes_of}
use Rattle.cluster_journal.proofs.Chains.{first_at, is_to_open}
use Rattle.cluster_journal.proofs.Queued.{has_open, queued_begin, same_names}
use Rattle.cluster_journal.proofs.Telling.{told_here}
use Rattle.cluster_journal.proofs.queues.claim_for.Goals as goal

pub open_from-requires-clause-queued : goal.open_from-requires-clause-queued
open_from-requires-clause-queued c = subst (λ l. AreQueued l c.args.queues.now) (sym c.deref.ensures.value)
    c.requires.queued.1

pub open_from-requires-clause-chain : goal.open_from-requires-clause-chain
open_from-requires-clause-chain c =
    let r = c.index-receiver.result.now in
    let told = subst (IsTold c.args.marks.now.items) (sym c.index-receiver.ensures)
    (c.requires.queued.1.told c.args.place _ c.requires.queued.0) in
    subst (λ l. is_to r.process (slice_get l r.first) ≡ true) (sym c.deref.ensures.value) told.begins

pub open_from-requires-clause-front : goal.open_from-requires-clause-front
open_from-requires-clause-front c =
    let r = c.index-receiver.result.now in
    let told = subst (IsTold c.args.marks.now.items) (sym c.index-receiver.ensures)
    (c.requires.queued.1.told c.args.place _ c.requires.queued.0) in
    subst (λ l. NoneOpen r.process l 0 r.first) (sym c.deref.ensures.value) told.none

pub unreachable-requires : goal.unreachable-requires
unreachable-requires c =
    let ms = c.args.marks.now.items in
    let r = c.index-receiver.result.now in
    let told = subst (IsTold ms) (sym c.index-receiver.ensures)
    (c.requires.queued.1.told c.args.place _ c.requires.queued.0) in
    let free = subst IsFree (sym c.index-receiver.ensures) (c.requires.free _) in
    has_open ms r told free.1
    (subst (λ l. NoneOpen r.process l 0 (length l)) c.deref.ensures.value c.in_default.ensures.none)

pub set_mark-requires : goal.set_mark-requires
set_mark-requires c =
    let ms = c.args.marks.now.items in
    let p = c.in-Some.found in
    let r = c.index-receiver.result.now in
    let at = subst (λ l. (p < length l) × (0 ≤ p) × (is_open_by r.process (slice_get l p) ≡ true)
    × NoneOpen r.process l 0 p) c.deref.ensures.value c.in-Some.ensures.found in
    let told = subst (IsTold ms) (sym c.index-receiver.ensures)
    (c.requires.queued.1.told c.args.place _ c.requires.queued.0) in (
      at.0,
      queued_begin ms c.args.queues.now _ c.args.place _ _ c.requires.queued.1 c.requires.queued.0
          (ap (λ x. x.process) c.index-receiver.ensures)
          (told_here ms p r _ told refl refl refl refl refl (is_to_open r.process (slice_get ms p) at.2) at.3)
          c.put_receiver.ensures.same.0 c.put_receiver.ensures.receivers c.put_receiver.ensures.free
          c.put_receiver.ensures.same.1,
    )

pub returns-clause-names : goal.returns-clause-names
returns-clause-names c =
    c.set_mark.ensures.names ∙ ap processes_of c.put_receiver.ensures.receivers
    ∙ same_names c.args.queues.now.receivers.items c.args.place _ _
    (ap (λ x. x.process) c.index-receiver.ensures)
    c.requires.queued.0

pub returns-clause-first : goal.returns-clause-first
returns-clause-first c =
    let ms = c.args.marks.now.items in
    let p = c.in-Some.found in
    let r = c.index-receiver.result.now in
    let at = subst (λ l. (p < length l) × (0 ≤ p) × (is_open_by r.process (slice_get l p) ≡ true)
    × NoneOpen r.process l 0 p) c.deref.ensures.value c.in-Some.ensures.found in
    first_at r.process 1 ms p at.2 at.3

pub returns-clause-alone : goal.returns-clause-alone
returns-clause-alone c =
    let ms = c.args.marks.now.items in
    let told = subst (IsTold ms) (sym c.index-receiver.ensures)
    (c.requires.queued.1.told c.args.place _ c.requires.queued.0) in
    let free = subst IsFree (sym c.index-receiver.ensures) (c.requires.free _) in
    sym told.claimed ∙ free.0
