-- A step that is marked stays so while more room is taken.
use Rattle.std.proofs.Common.{◌≡◌, subst, sym, List}
use Rattle.protocol.specs.declared.names.ProcessId.{ProcessId}
use Rattle.protocol.specs.declared.messages.Envelope.{Envelope}
use Rattle.protocol.specs.declared.events.JournalEntry.{JournalEntry}
use Rattle.protocol.specs.declared.events.Event.{Event}
use Rattle.protocol.specs.declared.trees.TreeProcess.{TreeProcess}
use Rattle.protocol.specs.Trees.{root_of}
use Rattle.process_state.specs.States.{CoreState}
use Rattle.proof_cuts.specs.Alone.{IsMine}
use Rattle.cluster_process.specs.declared.marked.MarkedStep.{MarkedStep}
use Rattle.cluster_process.specs.Makes.{FitsNode, IsAt}
use Rattle.cluster_process.specs.Marks.{Happens, IsMarked}

pub marked_still : (net : List Envelope) (me : ProcessId) (s : CoreState) (event : Event) (m n : MarkedStep)
    → n.wanted ≡ m.wanted → n.keep ≡ m.keep → IsMarked net me s event m → IsMarked net me s event n
marked_still net me s event m n wanted keep h = record {
  at = subst (λ (x : JournalEntry). IsAt me x) (sym wanted) h.at;
  happens = subst (λ k. Happens net me s event n.wanted.step.happening k) (sym keep)
      (subst (λ (x : JournalEntry). Happens net me s event x.step.happening m.keep) (sym wanted) h.happens);
  fits = subst (λ k. FitsNode s k n.wanted.step.happening) (sym keep)
      (subst (λ (x : JournalEntry). FitsNode s m.keep x.step.happening) (sym wanted) h.fits);
}

pub mine_still : (tree : List TreeProcess) (me : ProcessId) (m n : MarkedStep) → n.wanted ≡ m.wanted
    → IsMine (root_of tree) me m.wanted.step.happening → IsMine (root_of tree) me n.wanted.step.happening
mine_still tree me m n wanted h = subst
    (λ (x : JournalEntry). IsMine (root_of tree) me x.step.happening) (sym wanted) h
