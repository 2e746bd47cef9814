-- Why an event was not posted.
use Rattle.std.proofs.Common.{◌≡◌, ◌⊎◌, ◌∙◌, ap, refl, sym, subst, false, inl, inr, ℕ, Some, None, List, Result, Ok, Err, IfErr, IfOk}
use Rattle.std.specs.Result.{IsErrAnd}
use Rattle.protocol.specs.declared.names.ProcessId.{ProcessId}
use Rattle.protocol.specs.declared.messages.Envelope.{Envelope}
use Rattle.protocol.specs.declared.events.JournalEntry.{JournalEntry}
use Rattle.protocol.specs.declared.events.Event.{Event}
use Rattle.protocol.specs.declared.events.Event.TheVariants.{Deliver}
use Rattle.protocol.specs.declared.trees.TreeProcess.{TreeProcess}
use Rattle.protocol.specs.declared.events.StepError.TheVariants.{NoSuch}
use Rattle.protocol.specs.Nodes.{is_listed}
use Rattle.protocol.specs.Plays.{sent_as}
use Rattle.tree_state.specs.Cuts.{net_of}
use Rattle.cluster_ties.specs.Views.{entries_in}
use Rattle.cluster_process.specs.declared.errors.PostError.{PostError}
use Rattle.cluster_process.specs.declared.errors.PostError.TheVariants.{Stranger, Step, Memory}
use Rattle.cluster_process.specs.Passes.{PassState}
use Rattle.cluster_process.specs.Posts.{NotPosted}
use Rattle.cluster_tree.specs.Posts.{IsOf}
use Rattle.cluster_tree.specs.Refusals.{IsAddressed, IsReceiver, IsRefusedPost, NoMessage, NotAt, NotSettled, WasJournal}

-- the receiver of a message of the journal
pub received : {E : Type 0} (r : Result ProcessId E) (tree : List TreeProcess) (pass : PassState) (k : ℕ)
    (journal found : List (ℕ × JournalEntry)) → WasJournal tree pass journal → found ≡ journal
    → IfOk r (λ q. (l : Envelope) × (sent_as (net_of (entries_in found)) k ≡ Some l) × (q ≡ l.to))
    → IfOk r (λ q. IsReceiver tree pass q k)
received (Ok q) tree pass k journal found was same h = record {
  journal = journal;
  was = was;
  envelope = h.0;
  sent = ap (λ (js : List (ℕ × JournalEntry)). sent_as (net_of (entries_in js)) k) (sym same) ∙ h.1;
  receiver = h.2;
}
received (Err e) tree pass k journal found was same h = h

-- a message may be of any
pub of_any : {E : Type 0} (r : Result ProcessId E) (root : ProcessId) (k : ℕ)
    → IfOk r (λ q. IsOf root q (Deliver k))
of_any (Ok q) root k = tt
of_any (Err e) root k = tt

-- none has this number
pub not_received : (r : Result ProcessId PostError) (tree : List TreeProcess) (pass : PassState) (k : ℕ)
    (journal found : List (ℕ × JournalEntry)) → WasJournal tree pass journal → found ≡ journal
    → IfErr r (λ e. (e ≡ Memory) ⊎ ((e ≡ Stranger) × (sent_as (net_of (entries_in found)) k ≡ None)))
    → IfErr r (λ e. (e ≡ Memory) ⊎ NoMessage tree (Deliver k) pass e)
not_received (Ok q) tree pass k journal found was same h = h
not_received (Err e) tree pass k journal found was same (inl memory) = inl memory
not_received (Err e) tree pass k journal found was same (inr none) = inr (record {
  number = k;
  is = refl;
  journal = journal;
  was = was;
  none = ap (λ (js : List (ℕ × JournalEntry)). sent_as (net_of (entries_in js)) k) (sym same) ∙ none.1;
  answered = none.0;
})

-- so the event was refused
pub no_receiver : (r : Result ProcessId PostError) (tree : List TreeProcess) (pass : PassState) (k : ℕ)
    → IfErr r (λ e. (e ≡ Memory) ⊎ NoMessage tree (Deliver k) pass e)
    → IfErr r (IsRefusedPost tree (Deliver k) pass)
no_receiver (Ok q) tree pass k h = h
no_receiver (Err e) tree pass k (inl memory) = inr (inl memory)
no_receiver (Err e) tree pass k (inr none) = inr (inr (inl none))

-- its process has not made it
pub not_at : {A : Type 0} (r : Result A PostError) (tree : List TreeProcess) (q : ProcessId) (event : Event)
    (pass : PassState) → IfErr r (NotPosted tree q event pass) → IfErr r (NotAt tree q event pass)
not_at (Ok a) tree q event pass h = h
not_at (Err e) tree q event pass h = inr h

-- there is no such process
pub no_such : (tree : List TreeProcess) (entries : List TreeProcess) (q : ProcessId) (event : Event)
    (pass : PassState)
    → entries ≡ tree → is_listed entries q ≡ false → NotAt tree q event pass (Step NoSuch)
no_such tree entries q event pass same none = inl (ap (λ t. is_listed t q) (sym same) ∙ none, refl)

-- it was not posted at its process
pub not_there : (tree : List TreeProcess) (event : Event) (q : ProcessId)
    (old pass : PassState) (e : PostError)
    → pass ≡ old → IsAddressed tree old q event → NotAt tree q event pass e → IsRefusedPost tree event old e
not_there tree event q old pass e same addressed h = inr (inr (inr (record {
  process = q;
  addressed = addressed;
  refused = subst (λ (p : PassState). NotAt tree q event p e) same h;
})))

-- what the exit of a refused call answers
pub answered_so : {A : Type 0} (Why : PostError → Type 0) (e : PostError) (r : Result A PostError)
    → IsErrAnd r (λ f. f ≡ e) → Why e → IfErr r Why
answered_so Why e (Ok a) is why = absurd is
answered_so Why e (Err f) is why = subst Why (sym is) why

-- a message was not delivered
pub not_delivered : (tree : List TreeProcess) (to : ProcessId) (k : ℕ) (pass : PassState) (e : PostError)
    → NotAt tree to (Deliver k) pass e → NotSettled tree e
not_delivered tree to k pass e h = inr (record { to = to; number = k; pass = pass; refused = h })
