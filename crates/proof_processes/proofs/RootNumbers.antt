-- The records of a root are of its own cases, with numbers that it gave out.
use Rattle.std.proofs.Common.{◌≡◌, ◌∙◌, ◌≤◌, ◌<◌, ◌⊎◌, inl, inr, ℕ, Bool, true, false, Option, Some, None, List, [], ◌∷◌, ◌++◌, refl, ap, sym, subst, arith, if◌then◌else◌}
use Rattle.std.specs.Prelude.{fold}
use Rattle.std.specs.List.{flat_map}
use Rattle.protocol.specs.declared.names.Case.{Case}
use Rattle.protocol.specs.declared.names.ProcessId.{ProcessId}
use Rattle.protocol.specs.declared.records.Record.{Record}
use Rattle.protocol.specs.declared.standings.Standing.{Standing}
use Rattle.protocol.specs.declared.standings.Standing.TheVariants.{Unknown, Active, Collecting, Prepared, Committing, Aborting, Heuristic}
use Rattle.protocol.specs.NameLaws.{same_case_tells, same_case-refl}
use Rattle.protocol.specs.Records.{has, has_case, record_case, with_case, with_record, cases_in}
use Rattle.protocol.specs.Nodes.{AtRoot}
use Rattle.protocol.specs.Standings.{CoordinatorView}
use Rattle.protocol.specs.Restarts.{recorded_view, restart_abort, aborts_collecting, reopens}
use Rattle.proof_processes.specs.WorldHolds.{IsGivenOut, is_record_of, is_of}
use Rattle.proof_processes.proofs.RootCases.{IsRoots, IsRootsRecord, AllRoots}
use Rattle.proof_processes.proofs.Tests.{either, left, right, has-cons}

-- More numbers are given out, and later boots come.

less : (x y z : ℕ) → x < y → y < z → x < z
less x y z g h = omega (arith, g, h)

given_later : (b k now count now' count' : ℕ) → (now < now') ⊎ ((now ≡ now') × (count ≤ count'))
    → IsGivenOut b k now count → IsGivenOut b k now' count'
given_later b k now count now' count' l (inl e) = inl (lower l)
  where
    lower : (now < now') ⊎ ((now ≡ now') × (count ≤ count')) → b < now'
    lower (inl f) = less b now now' e f
    lower (inr f) = subst (λ (x : ℕ). b < x) f.0 e
given_later b k now count now' count' (inl f) (inr e) = inl (subst (λ (x : ℕ). x < now') (sym e.0) f)
given_later b k now count now' count' (inr f) (inr e) = inr (e.0 ∙ f.0, at_most k count count' e.1 f.1)
  where
    at_most : (x y z : ℕ) → x ≤ y → y ≤ z → x ≤ z
    at_most x y z g h = omega (arith, g, h)

module _ (me : ProcessId) where
  -- a case of the root is one where more are given out
  pub case_later : (b k b' k' : ℕ) → (b < b') ⊎ ((b ≡ b') × (k ≤ k')) → (c : Case) → IsRoots me b k c
      → IsRoots me b' k' c
  case_later b k b' k' l c i = record {
    no_ticket = i.no_ticket;
    own = i.own;
    counted = i.counted;
    number = given_later c.txn.boot c.txn.sequence b k b' k' l i.number;
  }

  module _ (b k : ℕ) where
    abbrev A : List Record → Type 0
    A rs = AllRoots me b k rs

    pub roots_both : (xs ys : List Record) → A xs → A ys → A (xs ++ ys)
    roots_both [] ys a c = c
    roots_both (x ∷ xs) ys a c = (a.0, roots_both xs ys a.1 c)

    -- a case of which there is a record
    pub roots_case : (c : Case) (rs : List Record) → has (is_record_of c) rs ≡ true → A rs → IsRoots me b k c
    unfolding has
    roots_case c [] e a = absurd (cc)
    roots_case c (r ∷ rs) e a =
        elim (either (is_record_of c r) (has (is_record_of c) rs) e) [
          | inl now ↦ by_record (record_case r) now a.0
          | inr rest ↦ roots_case c rs rest a.1
        ]
      where
        by_record : (o : Option Case) → is_of c o ≡ true → IsRootsRecord me b k o → IsRoots me b k c
        by_record None f i = absurd (cc)
        by_record (Some d) f i = elim (same_case_tells d c) [
          | inl t ↦ subst (λ (x : Case). IsRoots me b k x) t.1 i
          | inr g ↦ absurd (let h = g.0 in cc)
        ]

    -- such a list, by each of its cases
    pub roots_each : (rs : List Record)
        → ((c : Case) → has (is_record_of c) rs ≡ true → IsRoots me b k c) → A rs
    roots_each [] f = tt
    roots_each (r ∷ rs) f = (
      of_record (record_case r) refl,
      roots_each rs
          (λ c e. f c (has-cons (is_record_of c) r rs ∙ right _ _ e)),
    )
      where
        of_record : (o : Option Case) → record_case r ≡ o → IsRootsRecord me b k o
        of_record None e = tt
        of_record (Some c) e =
            f c (has-cons (is_record_of c) r rs ∙ left _ _ (ap (is_of c) e ∙ same_case-refl c))

    -- What a restart appends.

    abbrev pub AllOf : List Case → Type 0
    AllOf [] = Unit {0}
    AllOf (c ∷ cs) = IsRoots me b k c × AllOf cs

    of_both : (xs ys : List Case) → AllOf xs → AllOf ys → AllOf (xs ++ ys)
    of_both [] ys a c = c
    of_both (x ∷ xs) ys a c = (a.0, of_both xs ys a.1 c)

    of_if : (e : Bool) (cs : List Case) (c : Case) → AllOf cs → IsRoots me b k c
        → AllOf (if e then cs else cs ++ c ∷ [])
    of_if true cs c a i = a
    of_if false cs c a i = of_both cs (c ∷ []) a (i, tt)

    of_with : (cs : List Case) (o : Option Case) → AllOf cs → IsRootsRecord me b k o → AllOf (with_case cs o)
    of_with cs None a i = a
    of_with cs (Some c) a i = of_if (has_case cs c) cs c a i

    of_records : (cs : List Case) (rs : List Record) → AllOf cs → A rs → AllOf (fold with_record cs rs)
    of_records cs [] a i = a
    of_records cs (r ∷ rs) a i = of_records (with_record cs r) rs (of_with cs (record_case r) a i.0) i.1

    pub of_cases_in : (rs : List Record) → A rs → AllOf (cases_in rs)
    unfolding cases_in
    of_cases_in rs a = of_records [] rs tt a

    roots_abort : (c : Case) (v : CoordinatorView) (st : Standing) → IsRoots me b k c
        → A (restart_abort c v st)
    roots_abort c v Collecting i = (i, tt)
    roots_abort c v Unknown i = tt
    roots_abort c v Active i = tt
    roots_abort c v Prepared i = tt
    roots_abort c v Committing i = tt
    roots_abort c v Aborting i = tt
    roots_abort c v Heuristic i = tt

    roots_aborts : (rs : List Record) (cs : List Case) → AllOf cs → A (flat_map (aborts_collecting rs) cs)
    roots_aborts rs [] a = tt
    roots_aborts rs (c ∷ cs) a =
        let v = recorded_view rs c in
        roots_both (aborts_collecting rs c) (flat_map (aborts_collecting rs) cs)
        (roots_abort c v v.standing a.0)
        (roots_aborts rs cs a.1)

    pub roots_reopens : (rs : List Record) → A rs → A (reopens AtRoot rs)
    roots_reopens rs a = (tt, roots_aborts rs (cases_in rs) (of_cases_in rs a))
