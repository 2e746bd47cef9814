-- A case of a coordinator that promised and ended was decided, through every step.
use Rattle.std.proofs.Common.{◌≡◌, ◌∙◌, ◌+◌, ◌||◌, ◌⊎◌, inl, inr, ℕ, zero, suc, Bool, true, false, Option, List, [], ◌∷◌, ◌++◌, take, refl, sym, ap, subst, arith}
use Rattle.std.specs.List.{flat_map}
use Rattle.std.proofs.lemmas.List.{append-nil}
use Rattle.protocol.specs.declared.names.Case.{Case}
use Rattle.protocol.specs.declared.names.Presumption.TheVariants.{PresumeAbort, PresumeCommit}
use Rattle.protocol.specs.declared.names.Outcome.{Outcome}
use Rattle.protocol.specs.declared.names.ProcessId.{ProcessId}
use Rattle.protocol.specs.declared.names.Ticket.{Ticket}
use Rattle.protocol.specs.declared.records.Record.{Record}
use Rattle.protocol.specs.declared.records.Record.TheVariants.{Opened}
use Rattle.protocol_words.specs.Variants.{AbortRecord, EndRecord, PrepareRecord}
use Rattle.protocol.specs.declared.standings.Standing.{Standing}
use Rattle.protocol.specs.declared.standings.Standing.TheVariants.{Unknown, Active, Collecting, Prepared, Committing, Aborting, Heuristic}
use Rattle.protocol.specs.Records.{cases_in, has, is_abort, is_commit, is_end, is_prepare, boot_of}
use Rattle.protocol.specs.CoordinatorRows.{Row}
use Rattle.protocol.specs.Nodes.{Effect, Heard, Node, Place, entries_written, kept}
use Rattle.protocol.specs.Restarts.{aborts_collecting, coordinator_reopens, recorded_view, restart_abort}
use Rattle.protocol.specs.Standings.{CoordinatorView, coordinator_view}
use Rattle.proof_pairs.specs.turns.CoordinatorTurns.{CaseTurn, CoordinatorTurn, HasDecided, accepts, acknowledges, clears, answers, asks, asks_for_votes, aborts, begins, by_abort, by_commit, commits, counts_vote, does_nothing, ends, finds_nobody, gives_again, gives_fresh, gives_up, hears_no, invites, of_case, passes_abort, passes_commit, presumes, promises, reads_only, refuses, repeats_yes, rests, sends_work, waits_for_acks}
use Rattle.proof_processes.proofs.CaseFronts.{end_behind_abort, end_behind_commit}
use Rattle.proof_processes.proofs.CaseOrders.{AllFit, Fits}
use Rattle.proof_processes.proofs.GivenCases.{same_of}
use Rattle.proof_processes.proofs.Phases.{collecting_undecided}
use Rattle.proof_processes.proofs.Cases.{viewed}
use Rattle.proof_processes.proofs.Tests.{has-cons, has-nil, in_either, in_first, in_front, not_both}
use Rattle.proof_steps.proofs.cascades.Standings.{aborting_facts, committing_facts}

-- the case is decided
abbrev pub IsDecided : Case → List Record → Type 0
IsDecided c rs = (has (is_commit c) rs ≡ true) ⊎ (has (is_abort c) rs ≡ true)

-- where it promised and ended
abbrev pub EndsDecided : List Record → Type 0
EndsDecided rs = (c : Case) → has (is_end c) rs ≡ true → has (is_prepare c) rs ≡ true → IsDecided c rs

-- this record ends a case that is decided, or that has not promised
abbrev EndFits : List Record → Record → Type 0
EndFits rs (EndRecord c rep) = IsDecided c rs ⊎ (has (is_prepare c) rs ≡ false)
EndFits rs _ = Unit {0}

decided_first : (c : Case) (xs ys : List Record) → IsDecided c xs → IsDecided c (xs ++ ys)
decided_first c xs ys (inl e) = inl (in_first (is_commit c) xs ys e)
decided_first c xs ys (inr e) = inr (in_first (is_abort c) xs ys e)

one_is : (q : Record → Bool) (r : Record) → has q (r ∷ []) ≡ true → q r ≡ true
one_is q r e = only (q r) (sym (has-cons q r [] ∙ ap (λ b. q r || b) (has-nil q)) ∙ e)
  where
    only : (b : Bool) → (b || false) ≡ true → b ≡ true
    only b e = grind arith

-- One more record.
module _ (rs : List Record) (old : EndsDecided rs) (c : Case) where
  ends_now : (r : Record) → EndFits rs r → is_end c r ≡ true → has (is_prepare c) (rs ++ r ∷ []) ≡ true
      → IsDecided c rs
  ends_now (EndRecord d rep) f e g = by_fit (subst (λ (x : Case). IsDecided x rs
      ⊎ (has (is_prepare x) rs ≡ false))
      (same_of d c e) f) (in_either (is_prepare c) rs (EndRecord d rep ∷ []) g)
    where
      by_fit : IsDecided c rs ⊎ (has (is_prepare c) rs ≡ false)
          → (has (is_prepare c) rs ≡ true) ⊎ (has (is_prepare c) (EndRecord d rep ∷ []) ≡ true)
          → IsDecided c rs
      by_fit (inl x) y = x
      by_fit (inr x) (inl y) = not_both (is_prepare c) (has (is_prepare c) rs) y x
      by_fit (inr x) (inr y) = absurd (let z = one_is (is_prepare c) (EndRecord d rep) y in cc)
  ends_now r f e g = absurd (cc)

  promises_now : (r : Record) → Fits rs r → is_prepare c r ≡ true → has (is_end c) rs ≡ true → IsDecided c rs
  promises_now (PrepareRecord d ts) f e g =
      not_both (is_end c) (has (is_end c) rs) g
      (subst (λ (x : Case). has (is_end x) rs ≡ false) (same_of d c e) f.1.0.no_end)
  promises_now r f e g = absurd (cc)

  one_more : (r : Record) → Fits rs r → EndFits rs r → has (is_end c) (rs ++ r ∷ []) ≡ true
      → has (is_prepare c) (rs ++ r ∷ []) ≡ true → IsDecided c (rs ++ r ∷ [])
  one_more r f g e k =
      decided_first c rs (r ∷ [])
      (by_end (in_either (is_end c) rs (r ∷ []) e) (in_either (is_prepare c) rs (r ∷ []) k))
    where
      by_end : (has (is_end c) rs ≡ true) ⊎ (has (is_end c) (r ∷ []) ≡ true)
          → (has (is_prepare c) rs ≡ true) ⊎ (has (is_prepare c) (r ∷ []) ≡ true) → IsDecided c rs
      by_end (inr x) y = ends_now r g (one_is (is_end c) r x) k
      by_end (inl x) (inl y) = old c x y
      by_end (inl x) (inr y) = promises_now r f (one_is (is_prepare c) r y) x

-- A front of a log.
pub ends_front : (xs ys : List Record) → AllFit [] (xs ++ ys) → EndsDecided (xs ++ ys) → EndsDecided xs
ends_front xs ys fit h c e p =
    by_whole (h c (in_first (is_end c) xs ys e) (in_first (is_prepare c) xs ys p))
  where
    by_whole : IsDecided c (xs ++ ys) → IsDecided c xs
    by_whole (inl x) = inl (end_behind_commit c xs ys fit e x)
    by_whole (inr x) = inr (end_behind_abort c xs ys fit e x)

-- records that neither promise nor end
pub ends_more : (xs ys : List Record) → ((c : Case) → has (is_end c) ys ≡ false)
    → ((c : Case) → has (is_prepare c) ys ≡ false)
    → EndsDecided xs → EndsDecided (xs ++ ys)
ends_more xs ys f g h c e p =
    decided_first c xs ys (h c (first (is_end c) (f c) e) (first (is_prepare c) (g c) p))
  where
    first : (q : Record → Bool) → has q ys ≡ false → has q (xs ++ ys) ≡ true → has q xs ≡ true
    first q none x = elim (in_either q xs ys x) [ inl y ↦ y | inr y ↦ not_both q (has q ys) y none ]

-- What a row writes.

abbrev pub AllEndFit : List Record → List Record → Type 0
AllEndFit rs [] = Unit {0}
AllEndFit rs (r ∷ l) = EndFits rs r × (l ≡ [])

module _ (place : Place) (parent : Option ProcessId) (n : Node) (h : Heard) (c : Case) where
  decided_so : (o : Outcome) (s : Standing) → (coordinator_view place n c).standing ≡ s → HasDecided o s
      → IsDecided c (kept n)
  decided_so _ _ e by_commit = inl (committing_facts place n c e).0
  decided_so _ _ e by_abort = inr (aborting_facts place n c e).0

  row_ends : (r : Row) → CaseTurn place parent n h c r → AllEndFit (kept n) (entries_written r.written)
  row_ends r (reads_only t w ys PresumeAbort i e f) = tt
  row_ends r (reads_only t w ys PresumeCommit i e f) = (
    inr (collecting_undecided (kept n) c _ (sym (viewed place n c) ∙ i.vote.stands)).no_prepare,
    refl,
  )
  row_ends r (ends t o fs i e f g) = (inl (decided_so o (coordinator_view place n c).standing refl e), refl)
  row_ends r (asks_for_votes PresumeAbort i e f g) = tt
  row_ends r (asks_for_votes PresumeCommit i e f g) = (tt, refl)
  row_ends r (commits t w ys PresumeAbort i e f g) = (tt, refl)
  row_ends r (commits t w ys PresumeCommit i e f g) = (tt, refl)
  row_ends r (promises t w ys p i e f) = (tt, refl)
  row_ends r (hears_no t us PresumeAbort i e f) = (tt, refl)
  row_ends r (hears_no t us PresumeCommit i e f) = (tt, refl)
  row_ends r (aborts why us PresumeAbort i e f g) = (tt, refl)
  row_ends r (aborts why us PresumeCommit i e f g) = (tt, refl)
  row_ends r (passes_commit PresumeAbort i e f) = (tt, refl)
  row_ends r (passes_commit PresumeCommit i e f) = (tt, refl)
  row_ends r (passes_abort PresumeAbort i e f) = (tt, refl)
  row_ends r (passes_abort PresumeCommit i e f) = (tt, refl)
  row_ends r (rests i) = tt
  row_ends r (invites q i e f g) = tt
  row_ends r (accepts t i e f) = tt
  row_ends r (sends_work q t op i e f g) = tt
  row_ends r (finds_nobody i e f) = tt
  row_ends r (gives_up why p i e f) = tt
  row_ends r (counts_vote t w i f e) = tt
  row_ends r (repeats_yes j i e) = tt
  row_ends r (asks i e) = tt
  row_ends r (refuses j i e) = tt
  row_ends r (acknowledges o fs i e) = tt
  row_ends r (waits_for_acks t o fs i e f g) = tt
  row_ends r (clears i e f g) = (tt, refl)
  row_ends r (answers t o i e) = tt

pub turn_ends : (place : Place) (parent : Option ProcessId) (n : Node) (h : Heard) (e : Effect)
    → CoordinatorTurn place parent n h e → AllEndFit (kept n) (entries_written e.written)
turn_ends place parent n h e (of_case c r t) = row_ends place parent n h c r t
turn_ends place parent n h e (does_nothing i) = tt
turn_ends place parent n h e (begins p g i) = tt
turn_ends place parent n h e (gives_again p d t g i f) = tt
turn_ends place parent n h e (gives_fresh p d g i f) = tt
turn_ends place parent n h e (presumes x t i g) = tt

-- any front of what it writes
pub ends_written : (rs new : List Record) (a : ℕ) → EndsDecided rs → AllFit rs new → AllEndFit rs new
    → EndsDecided (rs ++ take a new)
ends_written rs [] zero h f g = subst EndsDecided (sym (append-nil rs)) h
ends_written rs [] (suc a) h f g = subst EndsDecided (sym (append-nil rs)) h
ends_written rs (r ∷ l) zero h f g = subst EndsDecided (sym (append-nil rs)) h
ends_written rs (r ∷ l) (suc a) h f g =
    subst (λ (x : List Record). EndsDecided (rs ++ r ∷ x)) (sym (ap (take a) g.1 ∙ nothing a))
    (λ c. one_more rs h c r f.0 g.0)
  where
    nothing : (a : ℕ) → take {A = Record} a [] ≡ []
    nothing zero = refl
    nothing (suc a) = refl

pub ends_all : (rs new : List Record) → EndsDecided rs → AllFit rs new → AllEndFit rs new
    → EndsDecided (rs ++ new)
ends_all rs [] h f g = subst EndsDecided (sym (append-nil rs)) h
ends_all rs (r ∷ l) h f g =
    subst (λ (x : List Record). EndsDecided (rs ++ r ∷ x)) (sym g.1) (λ c. one_more rs h c r f.0 g.0)

-- What a restart appends.

module _ (q : Record → Bool) (opened : (k : ℕ) → q (Opened k) ≡ false)
    (aborted : (d : Case) (ts : List Ticket) → q (AbortRecord d ts) ≡ false) where
  none_aborted : (d : Case) (v : CoordinatorView) (s : Standing) → has q (restart_abort d v s) ≡ false
  none_aborted d v Collecting = has-cons q _ [] ∙ ap (λ b. b || has q []) (aborted d v.named) ∙ has-nil q
  none_aborted d v Unknown = has-nil q
  none_aborted d v Active = has-nil q
  none_aborted d v Prepared = has-nil q
  none_aborted d v Committing = has-nil q
  none_aborted d v Aborting = has-nil q
  none_aborted d v Heuristic = has-nil q

  none_flat : (rs : List Record) (cs : List Case) → has q (flat_map (aborts_collecting rs) cs) ≡ false
  none_flat rs [] = has-nil q
  none_flat rs (d ∷ cs) = by_test (has q (aborts_collecting rs d ++ flat_map (aborts_collecting rs) cs)) refl
      (none_flat rs cs)
    where
      by_test : (b : Bool) → has q (aborts_collecting rs d ++ flat_map (aborts_collecting rs) cs) ≡ b
          → has q (flat_map (aborts_collecting rs) cs) ≡ false
          → has q (aborts_collecting rs d ++ flat_map (aborts_collecting rs) cs) ≡ false
      by_test false e g = e
      by_test true e g = elim (in_either q (aborts_collecting rs d) (flat_map (aborts_collecting rs) cs) e) [
        | inl x ↦ not_both q (has q (aborts_collecting rs d)) x
            (none_aborted d (recorded_view rs d) (recorded_view rs d).standing)
        | inr x ↦ not_both q (has q (flat_map (aborts_collecting rs) cs)) x g
      ]

  pub none_reopens : (rs : List Record) → has q (coordinator_reopens rs) ≡ false
  none_reopens rs = has-cons q _ _ ∙ (ap (λ b. b || has q (flat_map (aborts_collecting rs) (cases_in rs)))
      (opened (boot_of rs + 1)) ∙ none_flat rs (cases_in rs))

  pub none_taken : (a : ℕ) (rs : List Record) → has q (take a (coordinator_reopens rs)) ≡ false
  none_taken a rs = by_test (has q (take a (coordinator_reopens rs))) refl
    where
      by_test : (b : Bool) → has q (take a (coordinator_reopens rs)) ≡ b
          → has q (take a (coordinator_reopens rs)) ≡ false
      by_test true e = not_both q (has q (coordinator_reopens rs))
          (in_front q a (coordinator_reopens rs) e) (none_reopens rs)
      by_test false e = e
