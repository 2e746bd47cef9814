-- Each turn of a manager in which its device fails: nothing or the one record was appended.
use Rattle.std.proofs.Common.{◌≡◌, inl, inr, ℕ, true, false, List, [], ◌∷◌, refl, sym, subst}
use Rattle.protocol.specs.declared.names.Case.{Case}
use Rattle.protocol.specs.declared.names.Outcome.{Outcome}
use Rattle.protocol_words.specs.Variants.{AbortedOutcome, CaseBranch, CommittedOutcome, PreparedRecord}
use Rattle.protocol.specs.declared.messages.Message.TheVariants.{Joined, Prepare, Yes, No, Read, Commit, Abort, Inquire}
use Rattle.protocol.specs.declared.messages.Envelope.{Envelope}
use Rattle.protocol.specs.declared.records.Record.{Record}
use Rattle.protocol.specs.declared.records.Record.TheVariants.{Committed, RolledBack, HeurCommit, HeurRollback, Told, Forgot}
use Rattle.protocol.specs.NameLaws.{same_case_tells, same_case-refl}
use Rattle.protocol.specs.Records.{boot_of}
use Rattle.protocol.specs.Nodes.{Place, Effect, kept, no_effect}
use Rattle.protocol.specs.CoordinatorRows.{post, forced, tells_outcome}
use Rattle.protocol.specs.ManagerRows.{is_acknowledged, acknowledgement, written_as}
use Rattle.protocol.specs.Memory.{memory_of, next_ticket}
use Rattle.protocol.specs.Reactions.{leaf_of}
use Rattle.protocol.specs.Standings.{Promised, Decided, decided_findings, unknown_findings}
use Rattle.proof_pairs.specs.readings.ReadingOf.{ChildHalf, Wire}
use Rattle.proof_pairs.specs.turns.LeafTurns.{LeafTurn, writes_and_sends, Hears, mark_at, IsActive, IsDecided, does_nothing, gives_again, gives_fresh, votes_yes, votes_read, votes_no, repeats_yes, refuses, obeys, notes, acknowledges_told, acknowledges, drops, asks, decides, forgets}
use Rattle.proof_steps.proofs.children.FaultRecords.{Broken, branch, place_in, half_in, wire_in, Left, Ok, silent, fails_other, promises_own}
use Rattle.proof_steps.proofs.children.FaultRows.{obeys_own, notes_own, forgets_own, decides_own}
use Rattle.protocol.specs.declared.messages.Finding.{Finding}

module _ (turn : Broken) where
  open turn use {c, t, p, tree, n, h, net, up, nested, m, stands, pr, root, outcome, above, half, inv}

  abbrev d : Case
  d = branch turn

  abbrev place : Place
  place = place_in turn

  abbrev k : ChildHalf
  k = half_in turn

  abbrev v : Wire
  v = wire_in turn

  -- Every turn.

  abbrev Fails : Effect → Type 0
  Fails e = (a f : ℕ) → Left turn e a f → Ok turn e a f

  abbrev acked : Case → Outcome → List Finding → List Envelope
  acked x o fs = acknowledgement (leaf_of place p x) o fs

  abbrev Ends : Case → Outcome → Record → List Finding → Effect
  Ends x o r fs = writes_and_sends (written_as (leaf_of place p x) o r) (acked x o fs)

  abbrev Decides : Case → Record → Effect
  Decides x r = writes_and_sends (forced r) []

  pub turn_fails : (e : Effect) → LeafTurn place p n h e → Fails e
  turn_fails _ does_nothing = silent turn no_effect refl
  turn_fails _ (gives_again x u i a) = silent turn
      (writes_and_sends [] (post t.child p (Joined x u) ∷ [])) refl
  turn_fails _ (gives_fresh x i a s) =
      silent turn
      (writes_and_sends [] (post t.child p
      (Joined x (next_ticket t.child (boot_of (kept n)) (memory_of place n x))) ∷ [])) refl
  turn_fails _ (votes_yes x y ws i a) = elim (same_case_tells x d) [
    | inl s ↦ subst (λ (z : Case). Hears h (Prepare z y) → IsActive place n z
        → Fails (writes_and_sends (forced (PreparedRecord (CaseBranch z) ws)) (post t.child p (Yes z) ∷ [])))
        (sym s.1)
        (promises_own turn
        (writes_and_sends (forced (PreparedRecord (CaseBranch d) ws)) (post t.child p (Yes d) ∷ [])) true
        ws refl y) i a
    | inr f ↦ fails_other turn
        (writes_and_sends (forced (PreparedRecord (CaseBranch x) ws)) (post t.child p (Yes x) ∷ []))
        (PreparedRecord (CaseBranch x) ws) true refl
        (record { no_abort = refl; no_prepare = refl }) f.0 refl
  ]
  turn_fails _ (votes_read x y i a) = silent turn (writes_and_sends [] (post t.child p (Read x) ∷ [])) refl
  turn_fails _ (votes_no x y i a) = silent turn (writes_and_sends [] (post t.child p (No x) ∷ [])) refl
  turn_fails _ (repeats_yes x y i a) = silent turn (writes_and_sends [] (post t.child p (Yes x) ∷ [])) refl
  turn_fails _ (refuses x y i a) = silent turn (writes_and_sends [] (post t.child p (No x) ∷ [])) refl
  turn_fails _ (obeys x CommittedOutcome i a) = elim (same_case_tells x d) [
    | inl s ↦ subst (λ (z : Case). Hears h (Commit z) → mark_at n z ≡ Promised
        → Fails (Ends z CommittedOutcome (Committed (CaseBranch z)) [])) (sym s.1)
        (λ i' a'. (obeys_own turn) (Ends d CommittedOutcome (Committed (CaseBranch d)) [])
        (is_acknowledged c.txn.presumption CommittedOutcome) CommittedOutcome i' a' refl) i a
    | inr f ↦ fails_other turn (Ends x CommittedOutcome (Committed (CaseBranch x)) [])
        (Committed (CaseBranch x))
        (is_acknowledged x.txn.presumption CommittedOutcome) refl
        (record { no_abort = refl; no_prepare = refl }) f.0 refl
  ]
  turn_fails _ (obeys x AbortedOutcome i a) = elim (same_case_tells x d) [
    | inl s ↦ subst (λ (z : Case). Hears h (Abort z) → mark_at n z ≡ Promised
        → Fails (Ends z AbortedOutcome (RolledBack (CaseBranch z)) [])) (sym s.1)
        (λ i' a'. (obeys_own turn) (Ends d AbortedOutcome (RolledBack (CaseBranch d)) [])
        (is_acknowledged c.txn.presumption AbortedOutcome) AbortedOutcome i' a' refl) i a
    | inr f ↦ fails_other turn (Ends x AbortedOutcome (RolledBack (CaseBranch x)) [])
        (RolledBack (CaseBranch x))
        (is_acknowledged x.txn.presumption AbortedOutcome) refl
        (record { no_abort = refl; no_prepare = refl }) f.0 refl
  ]
  turn_fails _ (notes x o i a) = elim (same_case_tells x d) [
    | inl s ↦ subst (λ (z : Case). Hears h (tells_outcome o z) → mark_at n z ≡ Decided
        → Fails (Ends z o (Told (CaseBranch z) o) (decided_findings h.version (kept n) z o))) (sym s.1)
        (λ i' a'. (notes_own turn) (Ends d o (Told (CaseBranch d) o)
        (decided_findings h.version (kept n) d o))
        (is_acknowledged c.txn.presumption o) o i'
        a' refl) i a
    | inr f ↦ fails_other turn (Ends x o (Told (CaseBranch x) o) (decided_findings h.version (kept n) x o))
        (Told (CaseBranch x) o)
        (is_acknowledged x.txn.presumption o) refl
        (record { no_abort = refl; no_prepare = refl }) f.0 refl
  ]
  turn_fails _ (acknowledges_told x o i a) =
      silent turn (writes_and_sends [] (acked x o (decided_findings h.version (kept n) x o))) refl
  turn_fails _ (acknowledges x o i a) =
      silent turn (writes_and_sends [] (acked x o (unknown_findings h.version x))) refl
  turn_fails _ (drops x i a) = silent turn (writes_and_sends [] (acked x AbortedOutcome [])) refl
  turn_fails _ (asks x i a) = silent turn (writes_and_sends [] (post t.child p (Inquire x) ∷ [])) refl
  turn_fails _ (decides x CommittedOutcome i a) = elim (same_case_tells x d) [
    | inl s ↦ subst (λ (z : Case). mark_at n z ≡ Promised → Fails (Decides z (HeurCommit (CaseBranch z))))
        (sym s.1)
        (λ a'. (decides_own turn) (Decides d (HeurCommit (CaseBranch d))) true (HeurCommit (CaseBranch d))
        true
        refl (record { no_abort = refl; no_prepare = refl }) a' refl refl refl (same_case-refl d)
        (same_case-refl d) refl refl) a
    | inr f ↦ fails_other turn (Decides x (HeurCommit (CaseBranch x))) (HeurCommit (CaseBranch x)) true refl
        (record { no_abort = refl; no_prepare = refl }) f.0 refl
  ]
  turn_fails _ (decides x AbortedOutcome i a) = elim (same_case_tells x d) [
    | inl s ↦ subst (λ (z : Case). mark_at n z ≡ Promised
        → Fails (Decides z (HeurRollback (CaseBranch z)))) (sym s.1)
        (λ a'. (decides_own turn) (Decides d (HeurRollback (CaseBranch d))) true (HeurRollback (CaseBranch d))
        false refl (record { no_abort = refl; no_prepare = refl }) a' refl refl refl (same_case-refl d)
        refl refl refl) a
    | inr f ↦ fails_other turn (Decides x (HeurRollback (CaseBranch x))) (HeurRollback (CaseBranch x))
        true refl
        (record { no_abort = refl; no_prepare = refl }) f.0 refl
  ]
  turn_fails _ (forgets x i a) = elim (same_case_tells x d) [
    | inl s ↦ subst (λ (z : Case). IsDecided (mark_at n z) → Fails (Decides z (Forgot (CaseBranch z))))
        (sym s.1) (λ a'. (forgets_own turn) (Decides d (Forgot (CaseBranch d))) true refl a') a
    | inr f ↦ fails_other turn (Decides x (Forgot (CaseBranch x))) (Forgot (CaseBranch x)) true refl
        (record { no_abort = refl; no_prepare = refl }) f.0 refl
  ]
