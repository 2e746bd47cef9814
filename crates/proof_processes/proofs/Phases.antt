-- A case's phase in memory and its standing, as its records change.
use Rattle.std.proofs.Common.{◌≡◌, ◌∙◌, ◌||◌, Bool, true, false, List, [], ◌∷◌, ◌++◌, refl, sym, ap, arith, Option}
use Rattle.protocol.specs.declared.names.Case.{Case}
use Rattle.protocol.specs.declared.names.Ticket.{Ticket}
use Rattle.protocol.specs.declared.names.Presumption.{Presumption}
use Rattle.protocol.specs.declared.names.Presumption.TheVariants.{PresumeAbort, PresumeCommit}
use Rattle.protocol.specs.declared.records.Record.{Record}
use Rattle.protocol_words.specs.Variants.{AbortRecord, ClearedRecord, CollectingRecord, CommitRecord, EndRecord, PrepareRecord}
use Rattle.protocol.specs.declared.standings.Standing.{Standing}
use Rattle.protocol.specs.declared.standings.Standing.TheVariants.{Unknown, Active, Collecting}
use Rattle.protocol.specs.NameLaws.{same_case-refl}
use Rattle.protocol.specs.Records.{has, none_of, is_end, is_commit, is_abort, is_prepare, is_collecting, owing_by}
use Rattle.protocol.specs.Memory.{Phase, Open, Asked, Over}
use Rattle.protocol.specs.Standings.{standing_by, phase_standing}
use Rattle.proof_model.proofs.StandingLaws.{NoRecords, active_facts}
use Rattle.proof_model.proofs.RootRowLaws.{collecting_facts}
use Rattle.proof_processes.proofs.Tests.{not_both, has-append}
use Rattle.protocol.specs.declared.records.Reports.{Reports}

-- where the case stands, by its records and its phase
abbrev pub standing_at : List Record → Case → Phase → Standing
standing_at rs c ph =
    standing_by (has (is_end c) rs) (has (is_commit c) rs) (has (is_abort c) rs) (has (is_prepare c) rs)
    (has (is_collecting c) rs) (none_of (owing_by c rs)) (phase_standing c.txn.presumption ph)

-- the phase and the standing go together
pub record GoTogether (ph : Phase) (s : Standing) : Type 0 where
  pub open_is_active : ph ≡ Open → s ≡ Active
  pub asked_is_collecting : ph ≡ Asked → s ≡ Collecting
  pub collecting_is_asked : s ≡ Collecting → ph ≡ Asked

abbrev pub Together : List Record → Case → Phase → Type 0
Together rs c ph = GoTogether ph (standing_at rs c ph)

-- a case whose votes are over, and which does not collect
pub over_together : (ph : Phase) (s : Standing) → (ph ≡ Open → ⊥) → (ph ≡ Asked → ⊥) → (s ≡ Collecting → ⊥)
    → GoTogether ph s
over_together ph s f g k = record {
  open_is_active = λ e. absurd (f e);
  asked_is_collecting = λ e. absurd (g e);
  collecting_is_asked = λ e. absurd (k e);
}

-- a case that collects has no record that decides it
pub collecting_undecided : (rs : List Record) (c : Case) (ph : Phase) → standing_at rs c ph ≡ Collecting
    → NoRecords rs c
collecting_undecided rs c ph e =
    let f = collecting_facts (has (is_end c) rs) (has (is_commit c) rs) (has (is_abort c) rs)
    (has (is_prepare c) rs) (has (is_collecting c) rs) (none_of (owing_by c rs))
    (phase_standing c.txn.presumption ph) e in
    record { no_end = f.no_end; no_commit = f.no_commit; no_abort = f.no_abort; no_prepare = f.no_prepare }

-- an open case has no records
pub record Unrecorded (rs : List Record) (c : Case) : Type 0 where
  pub no_end : has (is_end c) rs ≡ false
  pub no_commit : has (is_commit c) rs ≡ false
  pub no_abort : has (is_abort c) rs ≡ false
  pub no_prepare : has (is_prepare c) rs ≡ false
  pub no_collecting : has (is_collecting c) rs ≡ false

pub active_unrecorded : (rs : List Record) (c : Case) (ph : Phase) → standing_at rs c ph ≡ Active
    → Unrecorded rs c
active_unrecorded rs c ph e =
    let f = active_facts (has (is_end c) rs) (has (is_commit c) rs) (has (is_abort c) rs)
    (has (is_prepare c) rs) (has (is_collecting c) rs) (none_of (owing_by c rs))
    (phase_standing c.txn.presumption ph) e in
    record {
      no_end = f.no_end;
      no_commit = f.no_commit;
      no_abort = f.no_abort;
      no_prepare = f.no_prepare;
      no_collecting = f.no_collecting;
    }

pub unrecorded_stands : (rs : List Record) (c : Case) (ph : Phase) → Unrecorded rs c
    → standing_at rs c ph ≡ phase_standing c.txn.presumption ph
unrecorded_stands rs c ph u = rw (u.no_end, u.no_commit, u.no_abort, u.no_prepare, u.no_collecting) refl

phase_over : (p : Presumption) → phase_standing p Over ≡ Unknown
phase_over PresumeAbort = refl
phase_over PresumeCommit = refl

-- Moves of the phase alone.

-- votes are not asked for any more
pub open_ends : (rs : List Record) (c : Case) → Together rs c Open → Together rs c Over
open_ends rs c h =
    let u = active_unrecorded rs c Open (h.open_is_active refl) in
    over_together Over (standing_at rs c Over) (λ e. cc) (λ e. cc)
    (λ e. not_so (sym (unrecorded_stands rs c Over u ∙ phase_over c.txn.presumption) ∙ e))
  where
    not_so : Unknown ≡ Collecting → ⊥
    not_so e = cc

-- votes are asked for after no record
pub open_asks : (rs : List Record) (c : Case) → c.txn.presumption ≡ PresumeAbort → Together rs c Open
    → Together rs c Asked
open_asks rs c p h =
    let u = active_unrecorded rs c Open (h.open_is_active refl) in
    let s : standing_at rs c Asked ≡ Collecting =
    unrecorded_stands rs c Asked u ∙ ap (λ (q : Presumption). phase_standing q Asked) p in
    record {
      open_is_active = λ e. absurd (cc);
      asked_is_collecting = λ e. s;
      collecting_is_asked = λ e. refl;
    }

-- the last vote came, and there is no record
pub asked_ends : (rs : List Record) (c : Case) → c.txn.presumption ≡ PresumeAbort
    → has (is_collecting c) rs ≡ false → Together rs c Asked → Together rs c Over
asked_ends rs c p none h =
    let u = collecting_undecided rs c Asked (h.asked_is_collecting refl) in
    let w : Unrecorded rs c = record {
      no_end = u.no_end;
      no_commit = u.no_commit;
      no_abort = u.no_abort;
      no_prepare = u.no_prepare;
      no_collecting = none;
    } in
    over_together Over (standing_at rs c Over) (λ e. cc) (λ e. cc)
    (λ e. not_so (sym (unrecorded_stands rs c Over w ∙ phase_over c.txn.presumption) ∙ e))
  where
    not_so : Unknown ≡ Collecting → ⊥
    not_so e = cc

-- A record is appended.

one_more : (q : Record → Bool) (rs : List Record) (r : Record)
    → has q (rs ++ r ∷ []) ≡ (has q rs || (q r || false))
unfolding has
one_more q rs r = has-append q rs (r ∷ [])

pub found : (q : Record → Bool) (rs : List Record) (r : Record) → q r ≡ true → has q (rs ++ r ∷ []) ≡ true
found q rs r e = one_more q rs r ∙ last (has q rs) (q r) e
  where
    last : (a b : Bool) → b ≡ true → (a || (b || false)) ≡ true
    last a b e = grind arith

pub not_found : (q : Record → Bool) (rs : List Record) (r : Record) → q r ≡ false
    → has q (rs ++ r ∷ []) ≡ has q rs
not_found q rs r e = one_more q rs r ∙ first (has q rs) (q r) e
  where
    first : (a b : Bool) → b ≡ false → (a || (b || false)) ≡ a
    first a b e = grind arith

module _ (rs : List Record) (c : Case) where
  -- votes are asked for after a record
  pub open_collects : (ts : List Ticket) → Together rs c Open
      → Together (rs ++ CollectingRecord c ts ∷ []) c Asked
  open_collects ts h =
      let u = active_unrecorded rs c Open (h.open_is_active refl) in
      let s : standing_at (rs ++ CollectingRecord c ts ∷ []) c Asked ≡ Collecting =
      rw (
        not_found (is_end c) rs (CollectingRecord c ts) refl ∙ u.no_end,
        not_found (is_commit c) rs (CollectingRecord c ts) refl ∙ u.no_commit,
        not_found (is_abort c) rs (CollectingRecord c ts) refl ∙ u.no_abort,
        not_found (is_prepare c) rs (CollectingRecord c ts) refl ∙ u.no_prepare,
        found (is_collecting c) rs (CollectingRecord c ts) (same_case-refl c),
      ) refl in
      record {
        open_is_active = λ e. absurd (cc);
        asked_is_collecting = λ e. s;
        collecting_is_asked = λ e. refl;
      }

  abbrev pub Closed : Phase → Type 0
  Closed ph = (ph ≡ Open → ⊥) × (ph ≡ Asked → ⊥)

  pub ends_together : (rep : Option Reports) (ph : Phase) → Closed ph
      → Together (rs ++ EndRecord c rep ∷ []) c ph
  ends_together rep ph k =
      over_together ph (standing_at (rs ++ EndRecord c rep ∷ []) c ph) k.0 k.1
      (λ e. not_both (is_end c) (has (is_end c) (rs ++ EndRecord c rep ∷ []))
      (found (is_end c) rs (EndRecord c rep) (same_case-refl c))
      (collecting_undecided (rs ++ EndRecord c rep ∷ []) c ph e).no_end)

  -- that a report was seen to, of a case that ended
  pub clears_together : has (is_end c) rs ≡ true → (ph : Phase) → Closed ph
      → Together (rs ++ ClearedRecord c ∷ []) c ph
  clears_together ended ph k =
      over_together ph (standing_at (rs ++ ClearedRecord c ∷ []) c ph) k.0 k.1
      (λ e. not_both (is_end c) (has (is_end c) (rs ++ ClearedRecord c ∷ []))
      (not_found (is_end c) rs (ClearedRecord c) refl ∙ ended)
      (collecting_undecided (rs ++ ClearedRecord c ∷ []) c ph e).no_end)

  pub commits_together : (ts : List Ticket) (ph : Phase) → Closed ph
      → Together (rs ++ CommitRecord c ts ∷ []) c ph
  commits_together ts ph k =
      over_together ph (standing_at (rs ++ CommitRecord c ts ∷ []) c ph) k.0 k.1
      (λ e. not_both (is_commit c) (has (is_commit c) (rs ++ CommitRecord c ts ∷ []))
      (found (is_commit c) rs (CommitRecord c ts) (same_case-refl c))
      (collecting_undecided (rs ++ CommitRecord c ts ∷ []) c ph e).no_commit)

  pub aborts_together : (ts : List Ticket) (ph : Phase) → Closed ph
      → Together (rs ++ AbortRecord c ts ∷ []) c ph
  aborts_together ts ph k =
      over_together ph (standing_at (rs ++ AbortRecord c ts ∷ []) c ph) k.0 k.1
      (λ e. not_both (is_abort c) (has (is_abort c) (rs ++ AbortRecord c ts ∷ []))
      (found (is_abort c) rs (AbortRecord c ts) (same_case-refl c))
      (collecting_undecided (rs ++ AbortRecord c ts ∷ []) c ph e).no_abort)

  pub prepares_together : (ts : List Ticket) (ph : Phase) → Closed ph
      → Together (rs ++ PrepareRecord c ts ∷ []) c ph
  prepares_together ts ph k =
      over_together ph (standing_at (rs ++ PrepareRecord c ts ∷ []) c ph) k.0 k.1
      (λ e. not_both (is_prepare c) (has (is_prepare c) (rs ++ PrepareRecord c ts ∷ []))
      (found (is_prepare c) rs (PrepareRecord c ts) (same_case-refl c))
      (collecting_undecided (rs ++ PrepareRecord c ts ∷ []) c ph e).no_prepare)
