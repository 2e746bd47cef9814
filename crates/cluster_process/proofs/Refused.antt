-- Why an event was not posted.
use Rattle.std.proofs.Common.{◌≡◌, subst, sym, inl, inr, ℕ, List, length, Result, Ok, Err, IfErr}
use Rattle.std.specs.Result.{IsErrAnd}
use Rattle.protocol.specs.declared.names.ProcessId.{ProcessId}
use Rattle.protocol.specs.declared.events.JournalEntry.{JournalEntry}
use Rattle.protocol.specs.declared.events.Event.{Event}
use Rattle.protocol.specs.declared.events.StepError.{StepError}
use Rattle.protocol.specs.declared.trees.TreeProcess.{TreeProcess}
use Rattle.protocol.specs.World.{entries_of}
use Rattle.process_state.specs.States.{CoreState}
use Rattle.resource_manager.specs.Data.{ManagerData}
use Rattle.proof_cuts.specs.Alone.{RunsAlone}
use Rattle.tree_state.specs.Cuts.{net_of}
use Rattle.proof_cuts.specs.Owns.{CutHolds}
use Rattle.cluster_ties.specs.Views.{entries_in, pairs_by}
use Rattle.cluster_process.specs.declared.errors.PostError.{PostError}
use Rattle.cluster_process.specs.declared.marked.MarkedStep.{MarkedStep}
use Rattle.cluster_process.specs.Makes.{NotMadeIt}
use Rattle.cluster_process.specs.Marks.{IsMarked, NotMarked}
use Rattle.cluster_process.specs.Passes.{PassState}
use Rattle.cluster_process.specs.Posts.{NotPosted, post_error}

-- its step was not marked
pub not_marked : (tree : List TreeProcess) (q : ProcessId) (event : Event) (pass : PassState) (e : PostError)
    (journal : List (ℕ × JournalEntry)) → CutHolds tree (entries_in journal)
    → pass.pairs ≡ pairs_by pass.caller 0 journal
    → NotMarked (net_of (entries_in journal)) (length journal) q event e → NotPosted tree q event pass e
not_marked tree q event pass e journal run met not =
    record { journal = journal; run = run; met = met; why = inl not }

-- it was marked, and the process refused to make it
pub not_made : (tree : List TreeProcess) (q : ProcessId) (event : Event) (pass : PassState) (e : PostError)
    (journal : List (ℕ × JournalEntry)) (own : List JournalEntry) (old new : CoreState)
    (before behind : ManagerData) (m : MarkedStep)
    (why : StepError) → CutHolds tree (entries_in journal) → pass.pairs ≡ pairs_by pass.caller 0 journal
    → own ≡ entries_of q (entries_in journal) → RunsAlone tree q own old before
    → IsMarked (net_of (entries_in journal)) q old event m
    → NotMadeIt old new before behind m.wanted.step.happening why → e ≡ post_error why
    → NotPosted tree q event pass e
not_made tree q event pass e journal own old new before behind m why run met is ran marked
    not answered = record {
      journal = journal;
      run = run;
      met = met;
      why = inr (record {
        stood = old;
        held = before;
        ran = subst (λ l. RunsAlone tree q l old before) is ran;
        refuses = record {
          happening = m.wanted.step.happening;
          keep = m.keep;
          asks = marked.happens;
          why = why;
          left = new;
          left_data = behind;
          not_made = not;
          answered = answered;
        };
      });
    }

-- what the exit of a refused call answers
pub answered_so : {A : Type 0} (Why : PostError → Type 0) (e : PostError) (r : Result A PostError)
    → IsErrAnd r (λ f. f ≡ e) → Why e → IfErr r Why
answered_so Why e (Ok a) is why = absurd is
answered_so Why e (Err f) is why = subst Why (sym is) why
