use Rattle.std.proofs.Common.{◌∙◌, ap}
use Rattle.cluster_journal.specs.Journals.{marked_by}
use Rattle.cluster_journal.proofs.Delivering.{noted_more}
use Rattle.cluster_journal.proofs.journal.note.Goals as goal

pub loop-entry-preserved : goal.loop-entry-preserved
loop-entry-preserved c =
    noted_more c.args.made.now c.loop-entry.entry-index c.loop-entry-item.result c.args.marks.now
    c.loop-entry.marks
    c.note.new.self c.loop-entry-test.true c.loop-entry.invariant
    (c.note.ensures ∙ ap (λ x. marked_by x.1.step.happening c.loop-entry.marks) c.loop-entry-item.is)
