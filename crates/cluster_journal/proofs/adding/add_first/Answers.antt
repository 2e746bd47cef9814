use Rattle.std.proofs.Common.{◌∙◌, ◌++◌, ◌∷◌, [], None, ap, subst, sym}
use Rattle.std.specs.Prelude.{count_by}
use Rattle.cluster_journal.specs.Marks.{AreQueued, is_undelivered}
use Rattle.cluster_journal.proofs.Sending.{link_to, queued_first, receiver_from}
use Rattle.cluster_journal.proofs.adding.add_first.Goals as goal

pub returns-clause-queued : goal.returns-clause-queued
returns-clause-queued c =
    let q = c.args.queues.now in
    let new = c.push_message.ensures in
    subst (λ l. AreQueued l c.push_message.new.queues) (sym new.marks)
    (queued_first c.args.marks.now.items c.args.to q c.push_message.new.queues _ c.requires.queued
    c.requires.fresh
    (ap (receiver_from c.args.to) (c.len-place.ensures ∙ c.args.marks.now.ok.0))
    (new.links ∙ ap (λ n. q.links.items ++ link_to n None ∷ []) (c.len-at.ensures ∙ q.receivers.ok.0))
    (ap (λ v. v.items) new.same.0 ∙ c.push_reserved.ensures.items) new.same.1
    (new.undelivered ∙ ap (λ l. count_by is_undelivered l) new.marks))
