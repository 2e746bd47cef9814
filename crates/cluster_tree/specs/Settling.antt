-- What a settle comes to.
use Rattle.std.specs.Prelude.{ℕ, List}
use Rattle.protocol.specs.declared.events.JournalEntry.{JournalEntry}
use Rattle.protocol.specs.declared.trees.TreeProcess.{TreeProcess}
use Rattle.cluster_journal.specs.Journals.{AllDelivered}
use Rattle.proof_cuts.specs.Owns.{CutHolds}
use Rattle.cluster_ties.specs.Views.{entries_in}
use Rattle.cluster_process.specs.Passes.{PassState}
use Rattle.cluster_tree.specs.Closing.{IsMet}

-- A settle with this pass came to its end: the journal was a run of the tree, it had just the pass's pairs
-- under its number, and each message that it sent was delivered in it.
pub record IsSettledPass (tree : List TreeProcess) (pass : PassState) : Type 0 where
  pub journal : List (ℕ × JournalEntry)
  pub run : CutHolds tree (entries_in journal)
  pub met : IsMet journal pass
  pub delivered : AllDelivered journal
