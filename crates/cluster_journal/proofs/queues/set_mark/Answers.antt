use Rattle.std.proofs.Common.{◌≡◌, ◌∙◌, ◌+◌, ◌<◌, Some, ap, not, refl, subst, sym, true}
use Rattle.std.specs.Prelude.{slice_get}
use Rattle.std.proofs.lemmas.Option.{slice_get-get_or}
use Rattle.cluster_journal.specs.Marks.{IsTold, is_to, is_undelivered, marked, processes_of}
use Rattle.cluster_journal.specs.declared.marks.MarkedMessage.{MarkedMessage}
use Rattle.cluster_journal.proofs.Counts.{fits_count, is_itself, recounted}
use Rattle.cluster_journal.proofs.Numbers.{marks_it}
use Rattle.cluster_journal.proofs.Queued.{linked_at, queued_mark, same_names}
use Rattle.cluster_journal.proofs.queues.set_mark.Goals as goal

pub index-requires-2 : goal.index-requires-2
index-requires-2 c =
    let rs = c.args.queues.now.receivers in
    let link = linked_at c.args.marks.now.items c.args.queues.now c.args.place _ _ c.requires.0
    c.index-message.ensures
    c.index.ensures c.requires.1 in
    subst (λ n. c.index.result.now.receiver < n) (sym rs.ok.0) link.within

pub told-receiver-requires-clause-told : goal.told-receiver-requires-clause-told
told-receiver-requires-clause-told c =
    let ms = c.args.marks.now.items in
    let link = linked_at ms c.args.queues.now c.args.place _ _ c.requires.0
    c.index-message.ensures c.index.ensures
    c.requires.1 in
    subst (λ l. IsTold l c.index-2.result.now) (sym c.deref.ensures.value)
    (subst (IsTold ms) (sym c.index-2.ensures) (c.requires.1.told c.index.result.now.receiver _ link.within))

pub told-receiver-requires-clause-mine : goal.told-receiver-requires-clause-mine
told-receiver-requires-clause-mine c =
    let ms = c.args.marks.now.items in
    let p = c.args.place in
    let r = c.index-2.result.now in
    let link = linked_at ms c.args.queues.now p _ _ c.requires.0 c.index-message.ensures c.index.ensures
    c.requires.1 in
    subst (λ l. is_to r.process (slice_get l p) ≡ true) (sym c.deref.ensures.value)
    (ap (is_to r.process) (slice_get-get_or ms p _ c.requires.0 ∙ ap Some (sym c.index-message.ensures))
    ∙ is_itself r.process c.index-message.result.now.to
    (ap (λ x. x.process) c.index-2.ensures ∙ link.named _))

pub put_receiver-requires-clause-at : goal.put_receiver-requires-clause-at
put_receiver-requires-clause-at c =
    (linked_at c.args.marks.now.items c.args.queues.now c.args.place _ _ c.requires.0 c.index-message.ensures
    c.index.ensures c.requires.1).within

pub counted-queues-requires : goal.counted-queues-requires
counted-queues-requires c =
    let m = c.index-message.result.now in
    let y : MarkedMessage = record { to = m.to; mark = c.args.mark } in
    fits_count is_undelivered c.args.marks.now.items c.args.place m _ y c.requires.0 c.index-message.ensures
    c.put_receiver.new.queues.undelivered _ (c.put_receiver.ensures.same.1 ∙ c.requires.1.undelivered)
    (c.len.ensures ∙ c.args.marks.now.ok.0) _ _
    (ap not c.is_delivered.ensures) (ap not c.is_delivered-2.ensures)

pub returns-clause-queued : goal.returns-clause-queued
returns-clause-queued c =
    let ms = c.args.marks.now.items in
    let p = c.args.place in
    let m = c.index-message.result.now in
    let y : MarkedMessage = record { to = m.to; mark = c.args.mark } in
    let s = c.told-receiver.result in
    let link = linked_at ms c.args.queues.now p _ _ c.requires.0 c.index-message.ensures c.index.ensures
    c.requires.1 in
    queued_mark ms p m _ c.args.mark c.args.queues.now _ c.index.result.now.receiver s
    c.index-2.result.now c.requires.0
    c.index-message.ensures c.requires.1 link.within (link.named _)
    (c.told-receiver.ensures.same ∙ ap (λ x. x.process) c.index-2.ensures)
    (subst (λ l. IsTold (marked l (p + 1) c.args.mark) s) c.deref.ensures.value c.told-receiver.ensures.told)
    c.put_receiver.ensures.same.0 c.put_receiver.ensures.receivers c.put_receiver.ensures.free
    (recounted is_undelivered ms p m _ y c.requires.0 c.index-message.ensures
    c.put_receiver.new.queues.undelivered _ (c.put_receiver.ensures.same.1 ∙ c.requires.1.undelivered) _ _
    (ap not c.is_delivered.ensures) (ap not c.is_delivered-2.ensures) c.counted-queues.ensures)

pub returns-clause-names : goal.returns-clause-names
returns-clause-names c =
    let link = linked_at c.args.marks.now.items c.args.queues.now c.args.place _ _ c.requires.0
    c.index-message.ensures
    c.index.ensures c.requires.1 in
    ap processes_of c.put_receiver.ensures.receivers
    ∙ same_names c.args.queues.now.receivers.items c.index.result.now.receiver c.told-receiver.result _
    (c.told-receiver.ensures.same ∙ ap (λ x. x.process) c.index-2.ensures) link.within

pub returns-clause-marks : goal.returns-clause-marks
returns-clause-marks c =
    marks_it c.args.marks.now.items (c.args.place + 1) c.args.place c.index-message.result.now _ _
    c.args.mark refl
    c.requires.0 c.index-message.ensures refl
