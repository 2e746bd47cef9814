-- What a front of a coordinator's log holds of a case: each record is after the ones that it needs, and
-- each kind of record once.
use Rattle.std.proofs.Common.{◌≡◌, ◌∙◌, ◌||◌, ◌&&◌, ◌⊎◌, inl, inr, Bool, true, false, List, [], ◌∷◌, ◌++◌, refl, sym, ap, arith}
use Rattle.protocol.specs.declared.names.Case.{Case}
use Rattle.protocol.specs.declared.names.Ticket.{Ticket}
use Rattle.protocol.specs.declared.records.Record.{Record}
use Rattle.protocol.specs.Records.{has, is_collecting, is_prepare, is_commit, is_abort, is_end}
use Rattle.protocol.specs.Audits.{is_collecting_naming, is_prepare_naming, is_decision_naming}
use Rattle.proof_processes.proofs.Tests.{either, in_first, in_either, not_both}
use Rattle.proof_processes.proofs.Worlds.{has_other}
use Rattle.proof_processes.proofs.CaseOrders
use Rattle.proof_processes.proofs.CaseOrders.{AllFit, Fits, fit_rest, none_later}

exactly : (a b : Bool) → (a ≡ true → b ≡ true) → (b ≡ true → a ≡ true) → a ≡ b
exactly a b f g = grind arith

one_of : (a b : Bool) → a ≡ true → b ≡ true → (a && b) ≡ true
one_of a b e f = grind arith

parts : (a b : Bool) → (a && b) ≡ true → (a ≡ true) × (b ≡ true)
parts a b e = grind arith

four : (a b c d : Bool) → ((a || b) || (c || d)) ≡ ((a || c) || (b || d))
four a b c d = grind arith

pub either_has : (q r : Record → Bool) (l : List Record) → has (λ x. q x || r x) l ≡ (has q l || has r l)
unfolding has
either_has q r [] = refl
either_has q r (x ∷ l) = ap (λ b. (q x || r x) || b) (either_has q r l) ∙ four (q x) (r x) (has q l) (has r l)

module _ (c : Case) (xs ys : List Record) (fit : AllFit [] (xs ++ ys)) where
  rest : AllFit xs ys
  rest = fit_rest [] xs ys fit

  module _ (q r : Record → Bool)
      (bars : (rs : List Record) (x : Record) → Fits rs x → q x ≡ true → has r rs ≡ false)
    where
      none_behind : has r xs ≡ true → has q ys ≡ false
      none_behind e = none_later q r bars xs ys rest e

      stands_before : has r xs ≡ true → has q (xs ++ ys) ≡ true → has q xs ≡ true
      stands_before e f = elim (in_either q xs ys f) [
        | inl front ↦ front
        | inr behind ↦ not_both q (has q ys) behind (none_behind e)
      ]

  pub promise_behind_collecting : has (is_prepare c) xs ≡ true → has (is_collecting c) (xs ++ ys) ≡ true
      → has (is_collecting c) xs ≡ true
  promise_behind_collecting = stands_before (is_collecting c) (is_prepare c)
      (CaseOrders.collecting_bars_promise c)

  pub commit_behind_collecting : has (is_commit c) xs ≡ true → has (is_collecting c) (xs ++ ys) ≡ true
      → has (is_collecting c) xs ≡ true
  commit_behind_collecting = stands_before (is_collecting c) (is_commit c)
      (CaseOrders.collecting_bars_commit c)

  pub commit_behind_promise : has (is_commit c) xs ≡ true → has (is_prepare c) (xs ++ ys) ≡ true
      → has (is_prepare c) xs ≡ true
  commit_behind_promise = stands_before (is_prepare c) (is_commit c) (CaseOrders.promise_bars_commit c)

  pub abort_behind_collecting : has (is_abort c) xs ≡ true → has (is_collecting c) (xs ++ ys) ≡ true
      → has (is_collecting c) xs ≡ true
  abort_behind_collecting = stands_before (is_collecting c) (is_abort c) (CaseOrders.collecting_bars_abort c)

  pub abort_behind_promise : has (is_abort c) xs ≡ true → has (is_prepare c) (xs ++ ys) ≡ true
      → has (is_prepare c) xs ≡ true
  abort_behind_promise = stands_before (is_prepare c) (is_abort c) (CaseOrders.promise_bars_abort c)

  pub end_behind_collecting : has (is_end c) xs ≡ true → has (is_collecting c) (xs ++ ys) ≡ true
      → has (is_collecting c) xs ≡ true
  end_behind_collecting = stands_before (is_collecting c) (is_end c) (CaseOrders.collecting_bars_end c)

  pub end_behind_commit : has (is_end c) xs ≡ true → has (is_commit c) (xs ++ ys) ≡ true
      → has (is_commit c) xs ≡ true
  end_behind_commit = stands_before (is_commit c) (is_end c) (CaseOrders.commit_bars_end c)

  pub end_behind_abort : has (is_end c) xs ≡ true → has (is_abort c) (xs ++ ys) ≡ true
      → has (is_abort c) xs ≡ true
  end_behind_abort = stands_before (is_abort c) (is_end c) (CaseOrders.abort_bars_end c)

  -- Whom the records of a front name.

  module _ (names : Record → Bool) (kind : Bool)
      (has_kind : has names xs ≡ true → kind ≡ true)
      (no_more : kind ≡ true → has names ys ≡ false)
    where
      by_kind : has names xs ≡ (kind && has names (xs ++ ys))
      by_kind =
          exactly (has names xs) (kind && has names (xs ++ ys))
          (λ e. one_of kind (has names (xs ++ ys)) (has_kind e) (in_first names xs ys e))
          (λ e. let f = parts kind (has names (xs ++ ys)) e in front f.0 (in_either names xs ys f.1))
        where
          front : kind ≡ true → (has names xs ≡ true) ⊎ (has names ys ≡ true) → has names xs ≡ true
          front k (inl e) = e
          front k (inr e) = not_both names (has names ys) e (no_more k)

  none_of_them : (q r : Record → Bool) → ((x : Record) → q x ≡ true → r x ≡ true) → (rs : List Record)
      → has r rs ≡ false → has q rs ≡ false
  none_of_them q r f rs e = by_test (has q rs) refl
    where
      by_test : (b : Bool) → has q rs ≡ b → has q rs ≡ false
      by_test true g = not_both q (has r rs) (has_other q r rs f g) e
      by_test false g = g

  module _ (t : Ticket) where
    collects_so : (x : Record) → is_collecting_naming c t x ≡ true → is_collecting c x ≡ true
    collects_so x e = grind arith

    names_so : (x : Record) → is_prepare_naming c t x ≡ true → is_prepare c x ≡ true
    names_so x e = grind arith

    decides_so : (x : Record) → is_decision_naming c t x ≡ true → (is_commit c x || is_abort c x) ≡ true
    decides_so x e = grind arith

    pub collects_in_front : has (is_collecting_naming c t) xs
        ≡ (has (is_collecting c) xs && has (is_collecting_naming c t) (xs ++ ys))
    collects_in_front =
        by_kind (is_collecting_naming c t) (has (is_collecting c) xs)
        (has_other (is_collecting_naming c t) (is_collecting c) xs collects_so)
        (λ e. none_of_them (is_collecting_naming c t) (is_collecting c) collects_so ys
        (none_behind (is_collecting c) (is_collecting c) (CaseOrders.collecting_is_once c) e))

    pub names_in_front : has (is_prepare_naming c t) xs
        ≡ (has (is_prepare c) xs && has (is_prepare_naming c t) (xs ++ ys))
    names_in_front =
        by_kind (is_prepare_naming c t) (has (is_prepare c) xs)
        (has_other (is_prepare_naming c t) (is_prepare c) xs names_so)
        (λ e. none_of_them (is_prepare_naming c t) (is_prepare c) names_so ys
        (none_behind (is_prepare c) (is_prepare c) (CaseOrders.promise_is_once c) e))

    abbrev is_decision : Record → Bool
    is_decision x = is_commit c x || is_abort c x

    decided_once : (rs : List Record) (x : Record) → Fits rs x → is_decision x ≡ true
        → has is_decision rs ≡ false
    decided_once rs x f e = elim (either (is_commit c x) (is_abort c x) e) [
      | inl commit ↦ neither_in rs (CaseOrders.commit_is_once c rs x f commit)
          (CaseOrders.commit_bars_abort c rs x f commit)
      | inr abort ↦ neither_in rs (CaseOrders.abort_bars_commit c rs x f abort)
          (CaseOrders.abort_is_once c rs x f abort)
    ]
      where
        neither_in : (zs : List Record) → has (is_commit c) zs ≡ false → has (is_abort c) zs ≡ false
            → has is_decision zs ≡ false
        neither_in zs g h = either_has (is_commit c) (is_abort c) zs ∙ rw (g, h) refl

    pub owes_in_front : has (is_decision_naming c t) xs
        ≡ ((has (is_commit c) xs || has (is_abort c) xs) && has (is_decision_naming c t) (xs ++ ys))
    owes_in_front =
        by_kind (is_decision_naming c t) (has (is_commit c) xs || has (is_abort c) xs)
        (λ e. sym (either_has (is_commit c) (is_abort c) xs)
        ∙ has_other (is_decision_naming c t) is_decision xs decides_so e)
        (λ e. none_of_them (is_decision_naming c t) is_decision decides_so ys
        (none_behind is_decision is_decision decided_once (either_has (is_commit c) (is_abort c) xs ∙ e)))
