-- Each turn of a manager keeps the invariant of its pairs.
use Rattle.protocol.specs.Reactions.{leaf_of}
use Rattle.protocol.specs.ManagerRows.{is_acknowledged, ends_record, acknowledgement, written_as}
use Rattle.std.proofs.Common.{◌≡◌, inl, inr, ℕ, [], ◌∷◌, ◌++◌, refl, sym, subst, if◌then◌else◌, List}
use Rattle.protocol.specs.declared.names.Case.{Case}
use Rattle.protocol.specs.declared.names.Outcome.{Outcome}
use Rattle.protocol_words.specs.Variants.{AbortedOutcome, CaseBranch, CommittedOutcome, MessageInput, PreparedRecord}
use Rattle.protocol.specs.declared.names.Presumption.{Presumption}
use Rattle.protocol.specs.declared.messages.Message.TheVariants.{Join, Prepare, Yes, No, Read, Commit, Abort, Inquire}
use Rattle.protocol.specs.declared.records.Record.TheVariants.{Committed, RolledBack, HeurCommit, HeurRollback, Told, Forgot}
use Rattle.protocol.specs.NameLaws.{same_case_tells}
use Rattle.protocol.specs.Nodes.{Place, Effect, after, kept}
use Rattle.protocol.specs.CoordinatorRows.{post, forced, tells_outcome}
use Rattle.protocol.specs.Standings.{Mark, Promised, Decided, ToldOf, unknown_findings, decided_findings}
use Rattle.proof_pairs.specs.readings.ReadingOf.{ChildHalf, Wire, child_half, wire}
use Rattle.proof_pairs.specs.turns.LeafTurns.{LeafTurn, Hears, mark_at, IsActive, IsUnknown, IsOpenBranch, writes_and_sends, Waits, waits, by_operator, IsDecided, untold, told, does_nothing, gives_again, gives_fresh, votes_yes, votes_read, votes_no, repeats_yes, refuses, obeys, notes, acknowledges_told, acknowledges, drops, asks, decides, forgets}
use Rattle.proof_processes.proofs.Orders.{IsMarked}
use Rattle.proof_steps.proofs.children.Moves.{Fits}
use Rattle.proof_steps.proofs.children.Opens.{IsRow}
use Rattle.proof_steps.proofs.children.Wires
use Rattle.proof_steps.proofs.children.Turns.{Turn, branch, place_in, half_in, wire_in, R, r0, Fine, ack, Acked}
use Rattle.proof_steps.proofs.children.TurnsQuiet.{nothing_said, yes_again, no_again, says_read, says_no}
use Rattle.proof_steps.proofs.children.TurnsWritten.{says_yes}
use Rattle.proof_steps.proofs.children.TurnsOutcomes.{obeys_own, notes_own}
use Rattle.proof_steps.proofs.children.TurnsOperators.{asks_own, forgets_own, decides_own}
use Rattle.proof_steps.proofs.children.TurnsAcknowledged.{acks_unknown, acks_told, drops_own}
use Rattle.proof_steps.proofs.children.TurnsOthers.{forced_other, written_other, acks_other}
use Rattle.protocol.specs.declared.messages.Finding.{Finding}

module _ (turn : Turn) where
  open turn use {
    c,
    t,
    p,
    tree,
    n,
    h,
    net,
    up,
    nested,
    m,
    stands,
    row,
    own,
    pr,
    of,
    root,
    outcome,
    above,
    half,
    inv,
  }

  abbrev d : Case
  d = branch turn

  abbrev place : Place
  place = place_in turn

  abbrev k : ChildHalf
  k = half_in turn

  abbrev v : Wire
  v = wire_in turn

  -- Every turn.

  abbrev Ok : Effect → Type 0
  Ok e = Fits pr (r0 turn) (R turn (child_half place (after n h e) d) (wire c t (net ++ e.messages)))

  no_join : {A : Type 0} (x : Case) (j : ℕ) → h.input ≡ MessageInput j (Join x) → A
  no_join x j i = absurd (subst IsRow i row)

  own_obeys : (o : Outcome) → Hears h (tells_outcome o d) → mark_at n d ≡ Promised
      → Ok (writes_and_sends (written_as (leaf_of place p d) o (ends_record (leaf_of place p d) o))
      (acknowledgement (leaf_of place p d) o []))
  own_obeys o i e =
      subst (λ (x : Presumption). (Fine turn)
      (record { entry = ends_record (leaf_of place p d) o; is_forced = is_acknowledged x o } ∷ [])
      (if is_acknowledged x o then (ack turn) o [] else [])) (sym of) (obeys_own turn o [] i.0 i.1 e)

  own_notes : (o : Outcome) (fs : List Finding) → Hears h (tells_outcome o d) → mark_at n d ≡ Decided
      → Ok (writes_and_sends (written_as (leaf_of place p d) o (Told (CaseBranch d) o))
      (acknowledgement (leaf_of place p d) o fs))
  own_notes o fs i e =
      subst (λ (x : Presumption). (Fine turn)
      (record { entry = Told (CaseBranch d) o; is_forced = is_acknowledged x o } ∷ [])
      (if is_acknowledged x o then (ack turn) o fs else [])) (sym of) (notes_own turn o fs i.0 i.1 e)

  own_acks : (o : Outcome) (fs : List Finding) → Fine turn [] (Acked turn o fs)
      → Ok (writes_and_sends [] (acknowledgement (leaf_of place p d) o fs))
  own_acks o fs f = subst (λ (x : Presumption). (Fine turn) []
      (if is_acknowledged x o then (ack turn) o fs else [])) (sym of)
      f

  open_marked : (x : Mark) → IsOpenBranch x → IsMarked x
  open_marked _ waits = tt
  open_marked _ (by_operator _ untold) = tt
  open_marked _ (by_operator _ (told o)) = tt

  pub turn_fits : (e : Effect) → LeafTurn place p n h e → Ok e
  turn_fits _ does_nothing = nothing_said turn [] (Wires.wire-none c t t.child p net)
  turn_fits _ (gives_again x u i a) = no_join x i.0 i.1
  turn_fits _ (gives_fresh x i a s) = no_join x i.0 i.1
  turn_fits _ (votes_yes x y ws i a) = elim (same_case_tells x d) [
    | inl s ↦ subst (λ (z : Case). Hears h (Prepare z y) → IsActive place n z
        → Fine turn (forced (PreparedRecord (CaseBranch z) ws)) (post t.child p (Yes z) ∷ [])) (sym s.1)
        (λ i' a'. (says_yes turn) y i'.0 ws i'.1 a') i a
    | inr f ↦ forced_other turn (PreparedRecord (CaseBranch x) ws)
        (record { no_abort = refl; no_prepare = refl }) f.0 refl (λ b. refl)
        (post t.child p (Yes x) ∷ []) (Wires.other-yes c t t.child p net x f.0)
  ]
  turn_fits _ (votes_read x y i a) = elim (same_case_tells x d) [
    | inl s ↦ subst (λ (z : Case). Hears h (Prepare z y) → IsActive place n z → Fine turn []
        (post t.child p (Read z) ∷ [])) (sym s.1)
        (λ i' a'. (says_read turn) y i'.0 i'.1 a') i a
    | inr f ↦ nothing_said turn (post t.child p (Read x) ∷ [])
        (Wires.other-read c t t.child p net x f.0 (own x i.0 y i.1))
  ]
  turn_fits _ (votes_no x y i a) = elim (same_case_tells x d) [
    | inl s ↦ subst (λ (z : Case). Hears h (Prepare z y) → IsActive place n z → Fine turn []
        (post t.child p (No z) ∷ [])) (sym s.1)
        (λ i' a'. (says_no turn) y i'.0 i'.1 a') i a
    | inr f ↦ nothing_said turn (post t.child p (No x) ∷ []) (Wires.other-no c t t.child p net x f.0)
  ]
  turn_fits _ (repeats_yes x y i a) = elim (same_case_tells x d) [
    | inl s ↦ subst (λ (z : Case). Hears h (Prepare z y) → IsOpenBranch (mark_at n z) → Fine turn []
        (post t.child p (Yes z) ∷ [])) (sym s.1)
        (λ i' a'. (yes_again turn) y i'.0 i'.1 a' (open_marked (mark_at n d) a')) i a
    | inr f ↦ nothing_said turn (post t.child p (Yes x) ∷ []) (Wires.other-yes c t t.child p net x f.0)
  ]
  turn_fits _ (refuses x y i a) = elim (same_case_tells x d) [
    | inl s ↦ subst (λ (z : Case). Hears h (Prepare z y) → IsUnknown place n z → Fine turn []
        (post t.child p (No z) ∷ [])) (sym s.1)
        (λ i' a'. (no_again turn) y i'.0 i'.1 a') i a
    | inr f ↦ nothing_said turn (post t.child p (No x) ∷ []) (Wires.other-no c t t.child p net x f.0)
  ]
  turn_fits _ (obeys x CommittedOutcome i a) = elim (same_case_tells x d) [
    | inl s ↦ subst (λ (z : Case). Hears h (Commit z) → mark_at n z ≡ Promised
        → Ok (writes_and_sends
        (written_as (leaf_of place p z) CommittedOutcome (Committed (CaseBranch z)))
        (acknowledgement (leaf_of place p z) CommittedOutcome []))) (sym s.1) (own_obeys CommittedOutcome) i
        a
    | inr f ↦ written_other turn (Committed (CaseBranch x))
        (record { no_abort = refl; no_prepare = refl }) f.0
        refl (λ b. refl) x
        CommittedOutcome [] f.0 (is_acknowledged x.txn.presumption CommittedOutcome)
  ]
  turn_fits _ (obeys x AbortedOutcome i a) = elim (same_case_tells x d) [
    | inl s ↦ subst (λ (z : Case). Hears h (Abort z) → mark_at n z ≡ Promised
        → Ok (writes_and_sends (written_as (leaf_of place p z) AbortedOutcome (RolledBack (CaseBranch z)))
        (acknowledgement (leaf_of place p z) AbortedOutcome []))) (sym s.1) (own_obeys AbortedOutcome) i a
    | inr f ↦ written_other turn (RolledBack (CaseBranch x)) (record { no_abort = refl; no_prepare = refl })
        f.0 refl (λ b. refl) x
        AbortedOutcome [] f.0 (is_acknowledged x.txn.presumption AbortedOutcome)
  ]
  turn_fits _ (notes x o i a) = elim (same_case_tells x d) [
    | inl s ↦ subst (λ (z : Case). Hears h (tells_outcome o z) → mark_at n z ≡ Decided
        → Ok (writes_and_sends (written_as (leaf_of place p z) o (Told (CaseBranch z) o))
        (acknowledgement (leaf_of place p z) o (decided_findings h.version (kept n) z o))))
        (sym s.1) (own_notes o (decided_findings h.version (kept n) d o)) i a
    | inr f ↦ written_other turn (Told (CaseBranch x) o) (record { no_abort = refl; no_prepare = refl }) f.0
        refl (λ b. refl) x o _ f.0
        (is_acknowledged x.txn.presumption o)
  ]
  turn_fits _ (acknowledges_told x o i a) = elim (same_case_tells x d) [
    | inl s ↦ subst (λ (z : Case). Hears h (tells_outcome o z) → mark_at n z ≡ ToldOf o
        → Ok (writes_and_sends []
        (acknowledgement (leaf_of place p z) o (decided_findings h.version (kept n) z o)))) (sym s.1)
        (λ i' a'. own_acks o (decided_findings h.version (kept n) d o)
        (acks_told turn o (decided_findings h.version (kept n) d o) i'.0 i'.1 a')) i a
    | inr f ↦ acks_other turn x o _ f.0 (is_acknowledged x.txn.presumption o)
  ]
  turn_fits _ (acknowledges x o i a) = elim (same_case_tells x d) [
    | inl s ↦ subst (λ (z : Case). Hears h (tells_outcome o z) → IsUnknown place n z
        → Ok (writes_and_sends []
        (acknowledgement (leaf_of place p z) o (unknown_findings h.version z)))) (sym s.1)
        (λ i' a'. own_acks o (unknown_findings h.version d)
        (acks_unknown turn o (unknown_findings h.version d) i'.0 i'.1 a')) i a
    | inr f ↦ acks_other turn x o _ f.0 (is_acknowledged x.txn.presumption o)
  ]
  turn_fits _ (drops x i a) = elim (same_case_tells x d) [
    | inl s ↦ subst (λ (z : Case). Hears h (Abort z) → IsActive place n z
        → Ok (writes_and_sends [] (acknowledgement (leaf_of place p z) AbortedOutcome []))) (sym s.1)
        (λ i' a'. own_acks AbortedOutcome [] (drops_own turn [] i'.0 i'.1 a')) i a
    | inr f ↦ acks_other turn x AbortedOutcome _ f.0 (is_acknowledged x.txn.presumption AbortedOutcome)
  ]
  turn_fits _ (asks x i a) = elim (same_case_tells x d) [
    | inl s ↦ subst (λ (z : Case). Waits (mark_at n z) → Fine turn [] (post t.child p (Inquire z) ∷ []))
        (sym s.1) (λ a'. (asks_own turn) a') a
    | inr f ↦ nothing_said turn (post t.child p (Inquire x) ∷ [])
        (Wires.other-inquire c t t.child p net x f.0)
  ]
  turn_fits _ (decides x CommittedOutcome i a) = elim (same_case_tells x d) [
    | inl s ↦ subst (λ (z : Case). mark_at n z ≡ Promised → Fine turn (forced (HeurCommit (CaseBranch z))) [])
        (sym s.1)
        (λ a'. (decides_own turn) CommittedOutcome a') a
    | inr f ↦ forced_other turn (HeurCommit (CaseBranch x))
        (record { no_abort = refl; no_prepare = refl }) f.0
        refl (λ b. refl) []
        (Wires.wire-none c t t.child p net)
  ]
  turn_fits _ (decides x AbortedOutcome i a) = elim (same_case_tells x d) [
    | inl s ↦ subst (λ (z : Case). mark_at n z ≡ Promised → Fine turn (forced (HeurRollback (CaseBranch z)))
        []) (sym s.1)
        (λ a'. (decides_own turn) AbortedOutcome a') a
    | inr f ↦ forced_other turn (HeurRollback (CaseBranch x)) (record { no_abort = refl; no_prepare = refl })
        f.0 refl (λ b. refl) []
        (Wires.wire-none c t t.child p net)
  ]
  turn_fits _ (forgets x i a) = elim (same_case_tells x d) [
    | inl s ↦ subst (λ (z : Case). IsDecided (mark_at n z) → Fine turn (forced (Forgot (CaseBranch z))) [])
        (sym s.1) (λ a'. (forgets_own turn) a') a
    | inr f ↦ forced_other turn (Forgot (CaseBranch x)) (record { no_abort = refl; no_prepare = refl }) f.0
        refl (λ b. refl) []
        (Wires.wire-none c t t.child p net)
  ]
