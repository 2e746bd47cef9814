use Rattle.std.proofs.Common.{◌∙◌, ◌++◌, ◌∷◌, [], None, Some, ap, slice_set, subst, sym}
use Rattle.std.specs.Prelude.{count_by}
use Rattle.cluster_journal.specs.Marks.{AreQueued, is_free, is_undelivered, processes_of}
use Rattle.cluster_journal.proofs.Queued.{same_names}
use Rattle.cluster_journal.proofs.Sending.{link_to, queued_next, receiver_until}
use Rattle.cluster_journal.proofs.adding.add_next.Goals as goal

pub returns-clause-queued : goal.returns-clause-queued
returns-clause-queued c =
    let q = c.args.queues.now in
    let r = c.index-before.result.now in
    let put = c.put_receiver.ensures in
    let new = c.push_message.ensures in
    let at = c.args.at in
    let place = c.len-place.ensures ∙ c.args.marks.now.ok.0 in
    subst (λ l. AreQueued l c.push_message.new.queues) (sym new.marks)
    (queued_next c.args.marks.now.items c.args.to q c.push_message.new.queues at r _
    c.requires.queued c.requires.at.0
    c.index-before.ensures (ap (λ x. x.process) c.index-before.ensures ∙ c.requires.at.1 _)
    (ap (receiver_until r) place)
    (new.links
    ∙ ap (λ v. slice_set v.items r.last (link_to at (Some c.len-place.result)) ++ link_to at None ∷ [])
    put.same.0
    ∙ ap (λ n. slice_set q.links.items r.last (link_to at (Some n)) ++ link_to at None ∷ []) place)
    (ap (λ v. v.items) new.same.0 ∙ put.receivers)
    (new.same.1 ∙ put.free ∙ ap (λ v. count_by is_free v.items) (sym new.same.0))
    (new.undelivered ∙ ap (λ l. count_by is_undelivered l) new.marks))

pub returns-clause-names : goal.returns-clause-names
returns-clause-names c =
    let rs = c.args.queues.now.receivers.items in
    ap (λ v. processes_of v.items) c.push_message.ensures.same.0
    ∙ ap processes_of c.put_receiver.ensures.receivers
    ∙ same_names rs c.args.at _ _ (ap (λ x. x.process) c.index-before.ensures) c.requires.at.0
