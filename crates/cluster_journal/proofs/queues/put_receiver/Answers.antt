use Rattle.std.proofs.Common.{◌∙◌}
use Rattle.cluster_journal.specs.Marks.{is_free}
use Rattle.cluster_journal.proofs.Counts.{fits_count, recounted}
use Rattle.cluster_journal.proofs.queues.put_receiver.Goals as goal

pub counted-queues-requires : goal.counted-queues-requires
counted-queues-requires c =
    fits_count is_free c.args.queues.now.receivers.items c.args.at _ _ c.args.receiver c.requires.at
    c.index-before.ensures
    _ _ c.requires.free (c.len.ensures ∙ c.args.queues.now.receivers.ok.0) _ _ c.is_free.ensures
    c.is_free-2.ensures

pub returns-clause-free : goal.returns-clause-free
returns-clause-free c =
    recounted is_free c.args.queues.now.receivers.items c.args.at _ _ c.args.receiver c.requires.at
    c.index-before.ensures
    _ _ c.requires.free _ _ c.is_free.ensures c.is_free-2.ensures c.counted-queues.ensures
