-- What the standing of a coordinator's case says of its records.
use Rattle.std.proofs.Common.{◌≡◌, ◌∙◌, ◌⊎◌, inl, inr, Bool, true, false, refl, sym}
use Rattle.protocol.specs.declared.names.Case.{Case}
use Rattle.protocol.specs.declared.names.Presumption.{Presumption}
use Rattle.protocol.specs.declared.names.Presumption.TheVariants.{PresumeAbort, PresumeCommit}
use Rattle.protocol.specs.declared.standings.Standing.{Standing}
use Rattle.protocol.specs.declared.standings.Standing.TheVariants.{Unknown, Active, Collecting, Prepared, Committing, Aborting}
use Rattle.protocol.specs.Records.{has, is_abort, is_collecting, is_commit, is_end, is_prepare, none_of, owing_by}
use Rattle.protocol.specs.Memory.{Phase, Idle, Open, Asked, Over, memory_of}
use Rattle.protocol.specs.Nodes.{Node, Place, kept}
use Rattle.protocol.specs.Standings.{coordinator_view, phase_standing, standing_by}
use Rattle.proof_processes.proofs.Cases.{viewed}
use Rattle.proof_processes.proofs.Phases.{standing_at}

-- the records of a case that is Prepared
pub record Promised (C A P : Bool) : Type 0 where
  pub no_commit : C ≡ false
  pub no_abort : A ≡ false
  pub promised : P ≡ true

phase_not : (s : Standing) → (s ≡ Unknown → ⊥) → (s ≡ Active → ⊥) → (s ≡ Collecting → ⊥) → (p : Presumption)
    → (ph : Phase) → phase_standing p ph ≡ s → ⊥
phase_not s f g k p Open e = g (sym e)
phase_not s f g k PresumeAbort Asked e = k (sym e)
phase_not s f g k PresumeCommit Asked e = f (sym e)
phase_not s f g k PresumeAbort Idle e = f (sym e)
phase_not s f g k PresumeCommit Idle e = f (sym e)
phase_not s f g k PresumeAbort Over e = f (sym e)
phase_not s f g k PresumeCommit Over e = f (sym e)

promised_by : (E C A P K N : Bool) (s : Standing) → (s ≡ Prepared → ⊥) → standing_by E C A P K N s ≡ Prepared
    → Promised C A P
promised_by true C A P K N s f e = absurd (cc)
promised_by false true A P K true s f e = absurd (cc)
promised_by false true A P K false s f e = absurd (cc)
promised_by false false true P K true s f e = absurd (cc)
promised_by false false true P K false s f e = absurd (cc)
promised_by false false false true K N s f e = record { no_commit = refl; no_abort = refl; promised = refl }
promised_by false false false false true N s f e = absurd (cc)
promised_by false false false false false N s f e = absurd (f e)

-- the records of a case that is Unknown: it ended, is decided, or has promised nothing
abbrev pub IsOver : Bool → Bool → Bool → Bool → Type 0
IsOver E C A P = (E ≡ true) ⊎ ((C ≡ true) ⊎ ((A ≡ true) ⊎ (P ≡ false)))

pub unknown_by : (E C A P K N : Bool) (s : Standing) → standing_by E C A P K N s ≡ Unknown → IsOver E C A P
unknown_by true C A P K N s e = inl refl
unknown_by false true A P K N s e = inr (inl refl)
unknown_by false false true P K N s e = inr (inr (inl refl))
unknown_by false false false true K N s e = absurd (cc)
unknown_by false false false false K N s e = inr (inr (inr refl))

committing_by : (E C A P K N : Bool) (s : Standing) → (s ≡ Committing → ⊥) → standing_by E C A P K N s
    ≡ Committing
    → C ≡ true
committing_by true C A P K N s f e = absurd (cc)
committing_by false true A P K N s f e = refl
committing_by false false true P K true s f e = absurd (cc)
committing_by false false true P K false s f e = absurd (cc)
committing_by false false false true K N s f e = absurd (cc)
committing_by false false false false true N s f e = absurd (cc)
committing_by false false false false false N s f e = absurd (f e)

aborting_by : (E C A P K N : Bool) (s : Standing) → (s ≡ Aborting → ⊥) → standing_by E C A P K N s ≡ Aborting
    → A ≡ true
aborting_by true C A P K N s f e = absurd (cc)
aborting_by false true A P K true s f e = absurd (cc)
aborting_by false true A P K false s f e = absurd (cc)
aborting_by false false true P K N s f e = refl
aborting_by false false false true K N s f e = absurd (cc)
aborting_by false false false false true N s f e = absurd (cc)
aborting_by false false false false false N s f e = absurd (f e)

-- a case that commits or aborts names somebody in its decision
committing_names : (E C A P K N : Bool) (s : Standing) → (s ≡ Committing → ⊥)
    → standing_by E C A P K N s ≡ Committing → N ≡ false
committing_names E C A P K false s f e = refl
committing_names true C A P K true s f e = absurd (cc)
committing_names false true A P K true s f e = absurd (cc)
committing_names false false true P K true s f e = absurd (cc)
committing_names false false false true K true s f e = absurd (cc)
committing_names false false false false true true s f e = absurd (cc)
committing_names false false false false false true s f e = absurd (f e)

aborting_names : (E C A P K N : Bool) (s : Standing) → (s ≡ Aborting → ⊥)
    → standing_by E C A P K N s ≡ Aborting → N ≡ false
aborting_names E C A P K false s f e = refl
aborting_names true C A P K true s f e = absurd (cc)
aborting_names false true A P K true s f e = absurd (cc)
aborting_names false false true P K true s f e = absurd (cc)
aborting_names false false false true K true s f e = absurd (cc)
aborting_names false false false false true true s f e = absurd (cc)
aborting_names false false false false false true s f e = absurd (f e)

module _ (place : Place) (n : Node) (c : Case) where
  abbrev ph : Phase
  ph = (memory_of place n c).phase

  abbrev E : Bool
  E = has (is_end c) (kept n)

  abbrev C : Bool
  C = has (is_commit c) (kept n)

  abbrev A : Bool
  A = has (is_abort c) (kept n)

  abbrev P : Bool
  P = has (is_prepare c) (kept n)

  abbrev K : Bool
  K = has (is_collecting c) (kept n)

  abbrev N : Bool
  N = none_of (owing_by c (kept n))

  at : (s : Standing) → (coordinator_view place n c).standing ≡ s
      → standing_at (kept n) c (memory_of place n c).phase ≡ s
  at s e = sym (viewed place n c) ∙ e

  pub prepared_facts : (coordinator_view place n c).standing ≡ Prepared
      → Promised (has (is_commit c) (kept n)) (has (is_abort c) (kept n)) (has (is_prepare c) (kept n))
  prepared_facts e =
      promised_by E C A P K N (phase_standing c.txn.presumption ph)
      (phase_not Prepared (λ x. cc) (λ x. cc) (λ x. cc) c.txn.presumption ph) (at Prepared e)

  pub unknown_facts : (coordinator_view place n c).standing ≡ Unknown
      → IsOver (has (is_end c) (kept n)) (has (is_commit c) (kept n)) (has (is_abort c) (kept n))
      (has (is_prepare c) (kept n))
  unknown_facts e = unknown_by E C A P K N (phase_standing c.txn.presumption ph) (at Unknown e)

  pub committing_facts : (coordinator_view place n c).standing ≡ Committing
      → (has (is_commit c) (kept n) ≡ true) × (none_of (owing_by c (kept n)) ≡ false)
  committing_facts e =
      let f = phase_not Committing (λ x. cc) (λ x. cc) (λ x. cc) c.txn.presumption ph in (
        committing_by E C A P K N (phase_standing c.txn.presumption ph) f (at Committing e),
        committing_names E C A P K N (phase_standing c.txn.presumption ph) f (at Committing e),
      )

  pub aborting_facts : (coordinator_view place n c).standing ≡ Aborting
      → (has (is_abort c) (kept n) ≡ true) × (none_of (owing_by c (kept n)) ≡ false)
  aborting_facts e =
      let f = phase_not Aborting (λ x. cc) (λ x. cc) (λ x. cc) c.txn.presumption ph in (
        aborting_by E C A P K N (phase_standing c.txn.presumption ph) f (at Aborting e),
        aborting_names E C A P K N (phase_standing c.txn.presumption ph) f (at Aborting e),
      )
