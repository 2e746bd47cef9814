-- How associations are listed: what maps keep of them.
use Rattle.std.proofs.Common.{◌≡◌, ◌-◌, ◌<◌, ℕ, zero, suc, Bool, true, false, List, [], ◌∷◌, Option, None, Some, arith, length}
use Rattle.std.specs.Prelude.{get_or, nat_eq, position, if◌then◌else◌}
use Rattle.std.specs.List.{AllByRecursion, IsDistinct, swap_remove}
use Rattle.std.specs.Map.{keys_of}
use Rattle.std.specs.Option.{option_map_or}
use Rattle.std.proofs.lemmas.Bool.Decides.{nat_tests}
use Rattle.std.proofs.lemmas.List.Elements.{All-from_recursion, All-set, All-take, recursion_from_All}
use Rattle.indexmap.specs.IndexMap.{insert_entry, swap_remove_entry}
use Rattle.xa_xid.specs.declared.xid.Xid.{Xid}
use Rattle.xa_assoc.specs.Associations.{ArePositiveCounts, AreThreadsListedOnce}

apart : (t : ℕ) (es : List (ℕ × Option Xid)) → AllByRecursion (λ u. nat_eq t u ≡ false) (keys_of es)
    → AllByRecursion (λ f. nat_eq f.0 t ≡ false) es
apart t [] h = tt
apart t (f ∷ es) h = (flips f.0 h.0, apart t es h.1)
  where
    flips : (u : ℕ) → nat_eq t u ≡ false → nat_eq u t ≡ false
    flips u differs = grind (arith, nat_tests, differs)

-- the keys of a map stand once
pub listed_once : (es : List (ℕ × Option Xid)) → IsDistinct nat_eq (keys_of es) → AreThreadsListedOnce es
unfolding IsDistinct
listed_once [] h = tt
listed_once (e ∷ es) h = (apart e.0 es h.0, listed_once es h.1)

module _ {K : Type 0} where
  within : (b : Bool) (es more : List (K × ℕ)) (e : K × ℕ) (n : ℕ) → 0 < n
      → 0 < e.1 → ArePositiveCounts es → ArePositiveCounts more
      → ArePositiveCounts (if b then (e.0, n) ∷ es else e ∷ more)
  within true es more e n some h k l = (some, k)
  within false es more e n some h k l = (h, l)

  -- a key is counted some times
  pub inserted : (eq : K → K → Bool) (es : List (K × ℕ)) (k : K) (n : ℕ) → 0 < n → ArePositiveCounts es
      → ArePositiveCounts (insert_entry eq es k n)
  inserted eq [] k n some h = (some, tt)
  inserted eq (e ∷ es) k n some h =
      within (eq k e.0) es (insert_entry eq es k n) e n some h.0 h.1 (inserted eq es k n some h.1)

  read : (es : List (K × ℕ)) (i : ℕ) (d : K × ℕ) → ArePositiveCounts es → 0 < d.1 → 0 < (get_or es i d).1
  read [] i d h own = own
  read (e ∷ es) zero d h own = h.0
  read (e ∷ es) (suc i) d h own = read es i d h.1 own

  taken : (es : List (K × ℕ)) (i : ℕ) (d : K × ℕ) → ArePositiveCounts es → 0 < d.1
      → ArePositiveCounts (swap_remove es i d)
  taken es i d h own =
      let some : K × ℕ → Type 0 = λ e. 0 < e.1 in
      recursion_from_All some (swap_remove es i d)
      (All-take some (length es - 1) _ (All-set some es i (get_or es (length es - 1) d)
      (read es (length es - 1) d h own) (All-from_recursion some es h)))

  -- a key is counted no longer
  pub removed : (test : K → Bool) (es : List (K × ℕ)) → ArePositiveCounts es
      → ArePositiveCounts (swap_remove_entry test es)
  removed test [] h = tt
  removed test (e ∷ es) h = by_place (position test (keys_of (e ∷ es)))
    where
      by_place : (r : Option ℕ) → ArePositiveCounts (option_map_or (λ i. swap_remove (e ∷ es) i e) r (e ∷ es))
      by_place None = h
      by_place (Some i) = taken (e ∷ es) i e h h.0
