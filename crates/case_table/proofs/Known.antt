-- The cases of a table, as a list.
use Rattle.std.proofs.Common.{◌≡◌, ◌||◌, ◌∙◌, if◌then◌else◌, ℕ, suc, Bool, true, false, Option, None, Some, is_some, List, [], ◌∷◌, length, refl, sym, arith}
use Rattle.std.specs.List.{AllByRecursion, IsDistinct}
use Rattle.protocol.specs.declared.names.Case.{Case}
use Rattle.protocol.specs.declared.standings.Standing.{Standing}
use Rattle.protocol.specs.Names.{same_case}
use Rattle.protocol.specs.Records.{has_case}
use Rattle.protocol.specs.Restarts.{is_known}
use Rattle.protocol.proofs.NameTests.{case_tells}
use Rattle.case_table.specs.Known.{KnowsCases}
use Rattle.case_table.specs.Tables.{AreApart, entry_at, is_of_case, live_count, live_value}
use Rattle.case_table.proofs.Writes.{apart_behind, counted, same_case-itself}

differs_back : (c d : Case) → same_case c d ≡ false → same_case d c ≡ false
differs_back c d differs = by_test (same_case d c) refl
  where
    by_test : (b : Bool) → same_case d c ≡ b → b ≡ false
    by_test false is = refl
    by_test true is =
        let one : same_case c d ≡ true = (case_tells c d).1 (sym ((case_tells d c).0 is)) in
        absurd (cc)

module _ {V : Type 0} where
  -- the case of an entry, in front of others
  abbrev with_entry : Option (Case × V) → List Case → List Case
  with_entry None cs = cs
  with_entry (Some p) cs = p.0 ∷ cs

  -- the cases of the entries
  unfoldable cases_in : List (Option (Case × V)) → List Case
  cases_in [] = []
  cases_in (slot ∷ slots) = with_entry slot (cases_in slots)

  count_cases : (slots : List (Option (Case × V))) → live_count slots ≡ length (cases_in slots)
  unfolding cases_in
  count_cases [] = refl
  count_cases (None ∷ slots) = omega (arith, counted None slots, count_cases slots)
  count_cases (Some p ∷ slots) = omega (arith, counted (Some p) slots, count_cases slots)

  has_live : (slots : List (Option (Case × V))) (c : Case)
      → has_case (cases_in slots) c ≡ is_some (live_value slots c)
  unfolding cases_in live_value has_case
  has_live [] c = refl
  has_live (None ∷ slots) c = has_live slots c
  has_live (Some p ∷ slots) c = by_test (same_case p.0 c) (has_live slots c)
    where
      by_test : (b : Bool) → has_case (cases_in slots) c ≡ is_some (live_value slots c)
          → (b || has_case (cases_in slots) c) ≡ is_some (if b then Some p.1 else live_value slots c)
      by_test true rest = refl
      by_test false rest = rest

  apart_from : (slots : List (Option (Case × V))) (c : Case)
      → ((k : ℕ) → is_of_case c (entry_at slots k) ≡ false)
      → AllByRecursion (λ d. same_case c d ≡ false) (cases_in slots)
  unfolding cases_in
  apart_from [] c none = tt
  apart_from (None ∷ slots) c none = apart_from slots c (λ k. none (suc k))
  apart_from (Some p ∷ slots) c none = (differs_back p.0 c (none 0), apart_from slots c (λ k. none (suc k)))

  each_once : (slots : List (Option (Case × V))) → AreApart slots → IsDistinct same_case (cases_in slots)
  unfolding cases_in IsDistinct
  each_once [] apart = tt
  each_once (None ∷ slots) apart = each_once slots (apart_behind None slots apart)
  each_once (Some p ∷ slots) apart = (
    apart_from slots p.0 (λ k. elsewhere k (is_of_case p.0 (entry_at slots k)) refl),
    each_once slots (apart_behind (Some p) slots apart),
  )
    where
      elsewhere : (k : ℕ) (b : Bool) → is_of_case p.0 (entry_at slots k) ≡ b → b ≡ false
      elsewhere k false is = refl
      elsewhere k true is =
          let one : 0 ≡ suc k = apart p.0 0 (suc k) (same_case-itself p.0) is in
          absurd (omega (arith, one))

  -- where just the live cases are known, as many are known as are live
  pub knows : (slots : List (Option (Case × V))) (standing_of : Case → Standing) → AreApart slots
      → ((c : Case) → is_known (standing_of c) ≡ is_some (live_value slots c))
      → KnowsCases standing_of (live_count slots)
  knows slots standing_of apart alike = record {
    cases = cases_in slots;
    counted = count_cases slots;
    once = each_once slots apart;
    known = λ c. has_live slots c ∙ sym (alike c);
  }
