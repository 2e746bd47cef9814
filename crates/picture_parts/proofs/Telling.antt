-- Events whose steps are counted, one after another.
use Rattle.std.proofs.Common.{◌≡◌, ap, sym, subst, ℕ, zero, suc, ◌+◌, Some, List, [], ◌∷◌, ◌++◌, drop, length, take, refl, arith}
use Rattle.std.specs.Prelude.{slice_get}
use Rattle.protocol.specs.declared.events.Event.{Event}
use Rattle.protocol.specs.declared.events.StepError.{StepError}
use Rattle.tree_state.specs.Worlds.{Applies, Stops, WorldState}
use Rattle.tree_engine.specs.Runs.{IsOwn}
use Rattle.picture_parts.specs.Counted.{Counts, CountsUntil, one_more}

-- Fronts of a list.

taken_more : (xs : List Event) (k : ℕ) (x : Event) (rest : List Event) → drop k xs ≡ x ∷ rest
    → take (k + 1) xs ≡ take k xs ++ x ∷ []
taken_more [] zero x rest is = absurd (cc)
taken_more [] (suc k) x rest is = absurd (cc)
taken_more (y ∷ xs) zero x rest is = let same : y ≡ x = cc in rw same refl
taken_more (y ∷ xs) (suc k) x rest is =
    let at : suc k + 1 ≡ suc (k + 1) = omega arith in
    rw at (ap (λ zs. y ∷ zs) (taken_more xs k x rest is))

item_at : (xs : List Event) (k : ℕ) (x : Event) (rest : List Event) → drop k xs ≡ x ∷ rest
    → slice_get xs k ≡ Some x
item_at [] zero x rest is = absurd (cc)
item_at [] (suc k) x rest is = absurd (cc)
item_at (y ∷ xs) zero x rest is = let same : y ≡ x = cc in ap Some same
item_at (y ∷ xs) (suc k) x rest is = item_at xs k x rest is

module _ (start : WorldState) (events : List Event) (k : ℕ) (e : Event) (rest : List Event)
    (next : drop k events ≡ e ∷ rest) (mid : WorldState) (counts : List ℕ)
    (so_far : Counts start (take k events) mid counts) (now : WorldState) (then : List ℕ)
    (is : then ≡ counts ++ length now.entries ∷ []) where
  -- one more event
  pub counted_more : Applies mid e now → Counts start (take (k + 1) events) now then
  counted_more made =
      let more : Counts start (take k events ++ e ∷ []) now (counts ++ length now.entries ∷ []) =
      one_more (take k events) mid counts e now so_far made in
      subst (λ es. Counts start es now then) (sym (taken_more events k e rest next))
      (subst (λ ns. Counts start (take k events ++ e ∷ []) now ns) (sym is) more)

  -- an event that is refused
  pub counted_until : (why : StepError) → Stops mid e why now → IsOwn why → CountsUntil start events k why now
      then
  counted_until why stops own = record {
    mid = mid;
    front = counts;
    counted = so_far;
    event = e;
    next = item_at events k e rest next;
    stops = stops;
    own = own;
    is = is;
  }
