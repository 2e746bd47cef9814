use Rattle.std.proofs.Common.{◌≡◌, take}
use Rattle.cluster_journal.specs.Journals.{marked_by_all}
use Rattle.cluster_journal.proofs.journal.note.Given as goal

abbrev pub invariant-loop-entry : goal.invariant-loop-entry
invariant-loop-entry l = l.marks ≡ marked_by_all (take l.entry-index l.made) l.fn.marks
