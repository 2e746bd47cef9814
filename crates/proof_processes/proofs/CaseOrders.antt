-- Each record of a coordinator fits what is before it; so the records of a case are in order, and
-- decisions name whom they should.
use Rattle.std.proofs.Common.{◌≡◌, ◌∙◌, ◌&&◌, inl, inr, Bool, true, false, List, [], ◌∷◌, ◌++◌, refl, sym, ap, subst, append_assoc, if◌then◌else◌, ◌⊎◌}
use Rattle.std.specs.List.{flat_map}
use Rattle.std.proofs.lemmas.List.{append-nil}
use Rattle.protocol.specs.declared.names.Case.{Case}
use Rattle.protocol.specs.declared.names.Ticket.{Ticket}
use Rattle.protocol.specs.declared.names.Presumption.{Presumption}
use Rattle.protocol.specs.declared.names.Presumption.TheVariants.{PresumeAbort, PresumeCommit}
use Rattle.protocol.specs.declared.records.Record.{Record}
use Rattle.protocol.specs.declared.records.Record.TheVariants.{Collecting, Prepare, Commit, Abort}
use Rattle.protocol.specs.Names.{same_case}
use Rattle.protocol.specs.Records.{has, none_of, is_collecting, is_prepare, is_commit, is_abort, is_end, owing_in, owing_by, promised_in, promised_by}
use Rattle.proof_processes.specs.WorldHolds.{InOrder, NamesBy, stands_behind}
use Rattle.proof_processes.proofs.Tests.{either, left, neither, first_false, second_false, not_both, has-cons, has-nil, in_first, in_second, case_is}

-- whom a Commit names
abbrev pub CommitNames : Presumption → List Ticket → Type 0
CommitNames PresumeAbort ts = none_of ts ≡ false
CommitNames PresumeCommit ts = none_of ts ≡ true

-- whom an Abort names
abbrev pub AbortNames : Presumption → List Ticket → Type 0
AbortNames PresumeAbort ts = none_of ts ≡ true
AbortNames PresumeCommit ts = Unit {0}

-- no record of the case ends it, commits it or aborts it
pub record Undecided (rs : List Record) (c : Case) : Type 0 where
  pub no_end : has (is_end c) rs ≡ false
  pub no_commit : has (is_commit c) rs ≡ false
  pub no_abort : has (is_abort c) rs ≡ false

-- the record may be after these
abbrev pub Fits : List Record → Record → Type 0
Fits rs (Collecting c ts) =
    (c.txn.presumption ≡ PresumeCommit)
    × (Undecided rs c × ((has (is_prepare c) rs ≡ false) × (has (is_collecting c) rs ≡ false)))
Fits rs (Prepare c ts) = (none_of ts ≡ false) × (Undecided rs c × (has (is_prepare c) rs ≡ false))
Fits rs (Commit c ts) = CommitNames c.txn.presumption ts × Undecided rs c
Fits rs (Abort c ts) = AbortNames c.txn.presumption ts × Undecided rs c
Fits rs _ = Unit {0}

-- so may each of the list, after these and those of the list before it
abbrev pub AllFit : List Record → List Record → Type 0
AllFit rs [] = Unit {0}
AllFit rs (x ∷ xs) = Fits rs x × AllFit (rs ++ x ∷ []) xs

-- Lists.

pub fit_front : (rs xs ys : List Record) → AllFit rs (xs ++ ys) → AllFit rs xs
fit_front rs [] ys f = tt
fit_front rs (x ∷ xs) ys f = (f.0, fit_front (rs ++ x ∷ []) xs ys f.1)

pub fit_rest : (rs xs ys : List Record) → AllFit rs (xs ++ ys) → AllFit (rs ++ xs) ys
fit_rest rs [] ys f = subst (λ (z : List Record). AllFit z ys) (sym (append-nil rs)) f
fit_rest rs (x ∷ xs) ys f =
    subst (λ (z : List Record). AllFit z ys) (append_assoc rs (x ∷ []) xs) (fit_rest (rs ++ x ∷ []) xs ys f.1)

pub fit_both : (rs xs ys : List Record) → AllFit rs xs → AllFit (rs ++ xs) ys → AllFit rs (xs ++ ys)
fit_both rs [] ys f g = subst (λ (z : List Record). AllFit z ys) (append-nil rs) g
fit_both rs (x ∷ xs) ys f g = (
  f.0,
  fit_both (rs ++ x ∷ []) xs ys f.1
      (subst (λ (z : List Record). AllFit z ys) (sym (append_assoc rs (x ∷ []) xs)) g),
)

at_end : (q : Record → Bool) (rs : List Record) (x : Record) → q x ≡ true → has q (rs ++ x ∷ []) ≡ true
at_end q rs x e = in_second q rs (x ∷ []) (has-cons q x [] ∙ left (q x) (has q []) e)

-- A record that does not fit after another never is after it.

module _ (q r : Record → Bool)
    (bars : (rs : List Record) (x : Record) → Fits rs x → q x ≡ true → has r rs ≡ false)
  where
    pub none_later : (rs xs : List Record) → AllFit rs xs → has r rs ≡ true → has q xs ≡ false
    none_later rs [] f e = has-nil q
    none_later rs (x ∷ xs) f e =
        has-cons q x xs
        ∙ neither (q x) (has q xs) (now (q x) refl)
        (none_later (rs ++ x ∷ []) xs f.1 (in_first r rs (x ∷ []) e))
      where
        now : (b : Bool) → q x ≡ b → q x ≡ false
        now true g = not_both r (has r rs) e (bars rs x f.0 g)
        now false g = g

    pub never_behind : (rs xs : List Record) → AllFit rs xs → stands_behind q r xs ≡ false
    never_behind rs [] f = refl
    never_behind rs (x ∷ xs) f =
        neither (r x && has q xs) _ (by_test (r x) refl) (never_behind (rs ++ x ∷ []) xs f.1)
      where
        by_test : (b : Bool) → r x ≡ b → (r x && has q xs) ≡ false
        by_test false e = rw e refl
        by_test true e = rw (e, none_later (rs ++ x ∷ []) xs f.1 (at_end r rs x e)) refl

module _ (c : Case) where
  of_it : (F : Case → Type 0) (d : Case) → same_case d c ≡ true → F d → F c
  of_it F d e k = subst F (case_is d c e) k

  pub promise_bars_commit : (rs : List Record) (x : Record) → Fits rs x → is_prepare c x ≡ true
      → has (is_commit c) rs ≡ false
  promise_bars_commit rs (Prepare d ts) f e = of_it (λ k. has (is_commit k) rs ≡ false) d e f.1.0.no_commit
  promise_bars_commit rs x f e = absurd (cc)

  pub promise_bars_abort : (rs : List Record) (x : Record) → Fits rs x → is_prepare c x ≡ true
      → has (is_abort c) rs ≡ false
  promise_bars_abort rs (Prepare d ts) f e = of_it (λ k. has (is_abort k) rs ≡ false) d e f.1.0.no_abort
  promise_bars_abort rs x f e = absurd (cc)

  pub collecting_bars_promise : (rs : List Record) (x : Record) → Fits rs x → is_collecting c x ≡ true
      → has (is_prepare c) rs ≡ false
  collecting_bars_promise rs (Collecting d ts) f e = of_it (λ k. has (is_prepare k) rs ≡ false) d e f.1.1.0
  collecting_bars_promise rs x f e = absurd (cc)

  pub collecting_bars_commit : (rs : List Record) (x : Record) → Fits rs x → is_collecting c x ≡ true
      → has (is_commit c) rs ≡ false
  collecting_bars_commit rs (Collecting d ts) f e =
      of_it (λ k. has (is_commit k) rs ≡ false) d e f.1.0.no_commit
  collecting_bars_commit rs x f e = absurd (cc)

  pub collecting_bars_abort : (rs : List Record) (x : Record) → Fits rs x → is_collecting c x ≡ true
      → has (is_abort c) rs ≡ false
  collecting_bars_abort rs (Collecting d ts) f e = of_it (λ k. has (is_abort k) rs ≡ false) d e f.1.0.no_abort
  collecting_bars_abort rs x f e = absurd (cc)

  pub collecting_bars_end : (rs : List Record) (x : Record) → Fits rs x → is_collecting c x ≡ true
      → has (is_end c) rs ≡ false
  collecting_bars_end rs (Collecting d ts) f e = of_it (λ k. has (is_end k) rs ≡ false) d e f.1.0.no_end
  collecting_bars_end rs x f e = absurd (cc)

  pub commit_bars_end : (rs : List Record) (x : Record) → Fits rs x → is_commit c x ≡ true
      → has (is_end c) rs ≡ false
  commit_bars_end rs (Commit d ts) f e = of_it (λ k. has (is_end k) rs ≡ false) d e f.1.no_end
  commit_bars_end rs x f e = absurd (cc)

  pub commit_bars_abort : (rs : List Record) (x : Record) → Fits rs x → is_commit c x ≡ true
      → has (is_abort c) rs ≡ false
  commit_bars_abort rs (Commit d ts) f e = of_it (λ k. has (is_abort k) rs ≡ false) d e f.1.no_abort
  commit_bars_abort rs x f e = absurd (cc)

  pub abort_bars_end : (rs : List Record) (x : Record) → Fits rs x → is_abort c x ≡ true
      → has (is_end c) rs ≡ false
  abort_bars_end rs (Abort d ts) f e = of_it (λ k. has (is_end k) rs ≡ false) d e f.1.no_end
  abort_bars_end rs x f e = absurd (cc)

  pub abort_bars_commit : (rs : List Record) (x : Record) → Fits rs x → is_abort c x ≡ true
      → has (is_commit c) rs ≡ false
  abort_bars_commit rs (Abort d ts) f e = of_it (λ k. has (is_commit k) rs ≡ false) d e f.1.no_commit
  abort_bars_commit rs x f e = absurd (cc)

  -- nor after one of its own kind

  pub collecting_is_once : (rs : List Record) (x : Record) → Fits rs x → is_collecting c x ≡ true
      → has (is_collecting c) rs ≡ false
  collecting_is_once rs (Collecting d ts) f e = of_it (λ k. has (is_collecting k) rs ≡ false) d e f.1.1.1
  collecting_is_once rs x f e = absurd (cc)

  pub promise_is_once : (rs : List Record) (x : Record) → Fits rs x → is_prepare c x ≡ true
      → has (is_prepare c) rs ≡ false
  promise_is_once rs (Prepare d ts) f e = of_it (λ k. has (is_prepare k) rs ≡ false) d e f.1.1
  promise_is_once rs x f e = absurd (cc)

  pub commit_is_once : (rs : List Record) (x : Record) → Fits rs x → is_commit c x ≡ true
      → has (is_commit c) rs ≡ false
  commit_is_once rs (Commit d ts) f e = of_it (λ k. has (is_commit k) rs ≡ false) d e f.1.no_commit
  commit_is_once rs x f e = absurd (cc)

  pub abort_is_once : (rs : List Record) (x : Record) → Fits rs x → is_abort c x ≡ true
      → has (is_abort c) rs ≡ false
  abort_is_once rs (Abort d ts) f e = of_it (λ k. has (is_abort k) rs ≡ false) d e f.1.no_abort
  abort_is_once rs x f e = absurd (cc)

  pub in_order : (rs : List Record) → AllFit [] rs → InOrder c rs
  in_order rs f = record {
    promise_commit = never_behind (is_prepare c) (is_commit c) promise_bars_commit [] rs f;
    promise_abort = never_behind (is_prepare c) (is_abort c) promise_bars_abort [] rs f;
    collecting_promise = never_behind (is_collecting c) (is_prepare c) collecting_bars_promise [] rs f;
    collecting_commit = never_behind (is_collecting c) (is_commit c) collecting_bars_commit [] rs f;
    collecting_abort = never_behind (is_collecting c) (is_abort c) collecting_bars_abort [] rs f;
    collecting_end = never_behind (is_collecting c) (is_end c) collecting_bars_end [] rs f;
    commit_end = never_behind (is_commit c) (is_end c) commit_bars_end [] rs f;
    abort_end = never_behind (is_abort c) (is_end c) abort_bars_end [] rs f;
  }

  -- a case is not decided both ways
  not_one : (x : Record) → is_commit c x ≡ true → is_abort c x ≡ true → ⊥
  not_one (Commit d ts) e f = cc
  not_one x e f = absurd (cc)

  decided_once : (rs xs : List Record) → AllFit rs xs → has (is_commit c) xs ≡ true
      → has (is_abort c) xs ≡ true
      → ⊥
  decided_once rs [] f e g = not_both (is_commit c) _ e (has-nil (is_commit c))
  decided_once rs (x ∷ xs) f e g =
      by_first (either _ _ (sym (has-cons (is_commit c) x xs) ∙ e))
      (either _ _ (sym (has-cons (is_abort c) x xs) ∙ g))
      (decided_once (rs ++ x ∷ []) xs f.1)
    where
      by_first : ((is_commit c x ≡ true) ⊎ (has (is_commit c) xs ≡ true))
          → ((is_abort c x ≡ true) ⊎ (has (is_abort c) xs ≡ true))
          → (has (is_commit c) xs ≡ true → has (is_abort c) xs ≡ true → ⊥) → ⊥
      by_first (inl now) (inl too) k = not_one x now too
      by_first (inl now) (inr rest) k =
          not_both (is_abort c) _ rest
          (none_later (is_abort c) (is_commit c) abort_bars_commit (rs ++ x ∷ []) xs f.1
          (at_end (is_commit c) rs x now))
      by_first (inr rest) (inl now) k =
          not_both (is_commit c) _ rest
          (none_later (is_commit c) (is_abort c) commit_bars_abort (rs ++ x ∷ []) xs f.1
          (at_end (is_abort c) rs x now))
      by_first (inr rest) (inr more) k = k rest more

  unless : (q : Record → Bool) (rs : List Record) → (has q rs ≡ true → ⊥) → has q rs ≡ false
  unless q rs f = by_test (has q rs) refl
    where
      by_test : (b : Bool) → has q rs ≡ b → has q rs ≡ false
      by_test true e = absurd (f e)
      by_test false e = e

-- Whom records name.

some_first : (ts us : List Ticket) → none_of ts ≡ false → none_of (ts ++ us) ≡ false
unfolding none_of
some_first [] us e = absurd (cc)
some_first (t ∷ ts) us e = refl

some_second : (ts us : List Ticket) → none_of us ≡ false → none_of (ts ++ us) ≡ false
unfolding none_of
some_second [] us e = e
some_second (t ∷ ts) us e = refl

nobody : (ts us : List Ticket) → none_of ts ≡ true → none_of us ≡ true → none_of (ts ++ us) ≡ true
unfolding none_of
nobody [] us e f = f
nobody (t ∷ ts) us e f = absurd (cc)

module _ (f : Record → List Ticket) (q : Record → Bool) where
  some_named : ((rs : List Record) (x : Record) → Fits rs x → q x ≡ true → none_of (f x) ≡ false)
      → (rs xs : List Record)
      → AllFit rs xs → has q xs ≡ true → none_of (flat_map f xs) ≡ false
  some_named g rs [] a e = not_both q _ e (has-nil q)
  some_named g rs (x ∷ xs) a e = by_first (either _ _ (sym (has-cons q x xs) ∙ e))
      (some_named g (rs ++ x ∷ []) xs a.1)
    where
      by_first : (q x ≡ true) ⊎ (has q xs ≡ true) → (has q xs ≡ true → none_of (flat_map f xs) ≡ false)
          → none_of (f x ++ flat_map f xs) ≡ false
      by_first (inl now) k = some_first (f x) (flat_map f xs) (g rs x a.0 now)
      by_first (inr rest) k = some_second (f x) (flat_map f xs) (k rest)

  none_named : ((rs : List Record) (x : Record) → Fits rs x → q x ≡ false → none_of (f x) ≡ true)
      → (rs xs : List Record)
      → AllFit rs xs → has q xs ≡ false → none_of (flat_map f xs) ≡ true
  unfolding none_of
  none_named g rs [] a e = refl
  none_named g rs (x ∷ xs) a e =
      nobody (f x) (flat_map f xs) (g rs x a.0 (first_false _ _ (sym (has-cons q x xs) ∙ e)))
      (none_named g (rs ++ x ∷ []) xs a.1 (second_false _ _ (sym (has-cons q x xs) ∙ e)))

module _ (c : Case) where
  named_so : (d : Case) (ts : List Ticket) (b : Bool) → same_case d c ≡ true → none_of ts ≡ b
      → none_of (if same_case d c then ts else []) ≡ b
  named_so d ts b e f = rw e f

  named_none : (d : Case) (ts : List Ticket) → (same_case d c ≡ true → none_of ts ≡ true)
      → none_of (if same_case d c then ts else []) ≡ true
  unfolding none_of
  named_none d ts f = by_test (same_case d c) refl
    where
      by_test : (b : Bool) → same_case d c ≡ b → none_of (if b then ts else []) ≡ true
      by_test true e = f e
      by_test false e = refl

  presumed_of : (F : Presumption → Type 0) (p : Presumption) (d : Case) → c.txn.presumption ≡ p
      → same_case d c ≡ true
      → F d.txn.presumption → F p
  presumed_of F p d e g k = subst F (ap (λ (x : Case). x.txn.presumption) (case_is d c g) ∙ e) k

  module _ (p : c.txn.presumption ≡ PresumeAbort) where
    commit_names : (rs : List Record) (x : Record) → Fits rs x → is_commit c x ≡ true
        → none_of (owing_in c x) ≡ false
    commit_names rs (Commit d ts) f e =
        named_so d ts false e (presumed_of (λ x. CommitNames x ts) PresumeAbort d p e f.0)
    commit_names rs x f e = absurd (cc)

    abort_names : (rs : List Record) (x : Record) → Fits rs x → is_commit c x ≡ false
        → none_of (owing_in c x) ≡ true
    unfolding none_of
    abort_names rs (Commit d ts) f e = rw e refl
    abort_names rs (Abort d ts) f e = named_none d ts
        (λ g. presumed_of (λ x. AbortNames x ts) PresumeAbort d p g f.0)
    abort_names rs x f e = refl

  module _ (p : c.txn.presumption ≡ PresumeCommit) where
    commit_names_none : (rs : List Record) (x : Record) → Fits rs x → is_abort c x ≡ false
        → none_of (owing_in c x) ≡ true
    unfolding none_of
    commit_names_none rs (Commit d ts) f e =
        named_none d ts (λ g. presumed_of (λ x. CommitNames x ts) PresumeCommit d p g f.0)
    commit_names_none rs (Abort d ts) f e = rw e refl
    commit_names_none rs x f e = refl

  promise_names_some : (rs : List Record) (x : Record) → Fits rs x → is_prepare c x ≡ true
      → none_of (promised_in c x) ≡ false
  promise_names_some rs (Prepare d ts) f e = named_so d ts false e f.0
  promise_names_some rs x f e = absurd (cc)

  pub promise_names : (rs : List Record) → AllFit [] rs → has (is_prepare c) rs ≡ true
      → none_of (promised_by c rs) ≡ false
  unfolding promised_by
  promise_names rs f = some_named (promised_in c) (is_prepare c) promise_names_some [] rs f

  names_by : (p : Presumption) → c.txn.presumption ≡ p → (rs : List Record) → AllFit [] rs → NamesBy p c rs
  unfolding owing_by
  names_by PresumeAbort p rs f = (
    some_named (owing_in c) (is_commit c) (commit_names p) [] rs f,
    λ e. none_named (owing_in c) (is_commit c) (abort_names p) [] rs f
        (unless c (is_commit c) rs (λ g. decided_once c [] rs f g e)),
  )
  names_by PresumeCommit p rs f =
      λ e. none_named (owing_in c) (is_abort c) (commit_names_none p) [] rs f
      (unless c (is_abort c) rs (λ g. decided_once c [] rs f e g))

  pub names : (rs : List Record) → AllFit [] rs → NamesBy c.txn.presumption c rs
  names rs f = names_by c.txn.presumption refl rs f

  collects_in : (rs xs : List Record) → AllFit rs xs → has (is_collecting c) xs ≡ true
      → c.txn.presumption ≡ PresumeCommit
  collects_in rs [] f e = not_both (is_collecting c) _ e (has-nil (is_collecting c))
  collects_in rs (x ∷ xs) f e =
      by_first x (either _ _ (sym (has-cons (is_collecting c) x xs) ∙ e)) f.0
      (collects_in (rs ++ x ∷ []) xs f.1)
    where
      by_record : (y : Record) → is_collecting c y ≡ true → Fits rs y → c.txn.presumption ≡ PresumeCommit
      by_record (Collecting d ts) g k = of_it c (λ z. z.txn.presumption ≡ PresumeCommit) d g k.0
      by_record y g k = absurd (cc)

      by_first : (y : Record) → (is_collecting c y ≡ true) ⊎ (has (is_collecting c) xs ≡ true) → Fits rs y
          → (has (is_collecting c) xs ≡ true → c.txn.presumption ≡ PresumeCommit)
          → c.txn.presumption ≡ PresumeCommit
      by_first y (inl now) g k = by_record y now g
      by_first y (inr rest) g k = k rest

  -- votes are collected after a record under Presumed Commit alone
  pub collects_by_commit : (rs : List Record) → AllFit [] rs → has (is_collecting c) rs ≡ true
      → c.txn.presumption ≡ PresumeCommit
  collects_by_commit rs f = collects_in [] rs f
