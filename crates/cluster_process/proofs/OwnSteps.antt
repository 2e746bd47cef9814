-- What a process makes under its own lock is a step by itself.
use Rattle.std.proofs.Common.{◌≡◌, ◌∙◌, ap, sym, subst, ℕ, List}
use Rattle.protocol.specs.declared.names.ProcessId.{ProcessId}
use Rattle.protocol.specs.declared.events.JournalEntry.{JournalEntry}
use Rattle.protocol.specs.declared.events.Step.{Step}
use Rattle.protocol.specs.declared.trees.TreeProcess.{TreeProcess}
use Rattle.protocol.specs.Trees.{root_of}
use Rattle.process_state.specs.States.{CoreState}
use Rattle.resource_manager.specs.Data.{ManagerData}
use Rattle.proof_cuts.specs.Alone.{IsMine, MakesAlone, StepAlone}
use Rattle.cluster_process.specs.Makes.{IsAt}

-- the step that the process made by itself is that of the entry
pub step_alone : (tree : List TreeProcess) (q : ProcessId) (s t : CoreState) (d e : ManagerData) (keep : ℕ)
    (w x : JournalEntry) → IsAt q w → IsMine (root_of tree) q w.step.happening → x.step ≡ w.step
    → MakesAlone s t d e keep x.step.happening x.reaction → StepAlone tree q s t d e x
step_alone tree q s t d e keep w x is mine step made = record {
  process = ap (λ (y : Step). y.process) step ∙ is.process;
  unfailed = ap (λ (y : Step). y.fault) step ∙ is.unfailed;
  mine = subst (λ (y : Step). IsMine (root_of tree) q y.happening) (sym step) mine;
  keep = keep;
  makes = made;
}
