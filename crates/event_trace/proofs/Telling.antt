-- Events that are told, one after another.
use Rattle.std.proofs.Common.{◌≡◌, ◌∙◌, ap, sym, subst, ℕ, zero, suc, ◌+◌, Some, List, [], ◌∷◌, ◌++◌, drop, length, take, refl, arith}
use Rattle.std.specs.Prelude.{slice_get}
use Rattle.protocol.specs.declared.events.Event.{Event}
use Rattle.protocol.specs.declared.events.StepError.{StepError}
use Rattle.tree_state.specs.Worlds.{Applies, Stops, WorldState}
use Rattle.tree_engine.specs.Runs.{IsOwn}
use Rattle.event_trace.specs.Numbered.{numbered, sent_after, steps_text}
use Rattle.event_trace.specs.Told.{Tells, TellsUntil, one_more}

-- Fronts of a list.

taken_more : (xs : List Event) (k : ℕ) (x : Event) (rest : List Event) → drop k xs ≡ x ∷ rest
    → take (k + 1) xs ≡ take k xs ++ x ∷ []
taken_more [] zero x rest is = absurd (cc)
taken_more [] (suc k) x rest is = absurd (cc)
taken_more (y ∷ xs) zero x rest is = let same : y ≡ x = cc in rw same refl
taken_more (y ∷ xs) (suc k) x rest is =
    let at : suc k + 1 ≡ suc (k + 1) = omega arith in
    rw at (ap (λ zs. y ∷ zs) (taken_more xs k x rest is))

taken_size : (xs : List Event) (k : ℕ) (x : Event) (rest : List Event) → drop k xs ≡ x ∷ rest
    → length (take k xs) ≡ k
taken_size [] zero x rest is = refl
taken_size [] (suc k) x rest is = absurd (cc)
taken_size (y ∷ xs) zero x rest is = refl
taken_size (y ∷ xs) (suc k) x rest is = ap suc (taken_size xs k x rest is)

item_at : (xs : List Event) (k : ℕ) (x : Event) (rest : List Event) → drop k xs ≡ x ∷ rest
    → slice_get xs k ≡ Some x
item_at [] zero x rest is = absurd (cc)
item_at [] (suc k) x rest is = absurd (cc)
item_at (y ∷ xs) zero x rest is = let same : y ≡ x = cc in ap Some same
item_at (y ∷ xs) (suc k) x rest is = item_at xs k x rest is

module _ (start : WorldState) (sent : ℕ) (before : List ℕ) (events : List Event) (k : ℕ) (e : Event)
    (rest : List Event)
    (next : drop k events ≡ e ∷ rest) (mid : WorldState) (total : ℕ) (text : List ℕ)
    (so_far : Tells start sent before (take k events) mid total text) (number : ℕ) (counted : number ≡ k + 1)
    (now : WorldState) (then : List ℕ) (is : then ≡ text ++ numbered number (steps_text total mid now)) where
  -- an event more
  pub told_more : Applies mid e now → (n : ℕ) → n ≡ sent_after total (drop (length mid.entries) now.entries)
      → Tells start sent before (take (k + 1) events) now n then
  told_more made n sums =
      let size : length (take k events) + 1 ≡ number = ap (λ m. m + 1) (taken_size events k e rest next)
      ∙ sym counted in
      let told : Tells start sent before (take k events ++ e ∷ []) now
      (sent_after total (drop (length mid.entries) now.entries))
      (text ++ numbered (length (take k events) + 1) (steps_text total mid now)) =
      one_more (take k events) mid total text e now so_far made in
      let lines : text ++ numbered (length (take k events) + 1) (steps_text total mid now) ≡ then =
      ap (λ m. text ++ numbered m (steps_text total mid now)) size ∙ sym is in
      subst (λ es. Tells start sent before es now n then) (sym (taken_more events k e rest next))
      (subst (λ m. Tells start sent before (take k events ++ e ∷ []) now m then) (sym sums)
      (subst (λ t. Tells start sent before (take k events ++ e ∷ []) now
      (sent_after total (drop (length mid.entries) now.entries)) t) lines told))

  -- an event that is refused
  pub told_until : (why : StepError) → Stops mid e why now → IsOwn why
      → TellsUntil start sent before events k why now then
  told_until why stops own = record {
    mid = mid;
    sent = total;
    front = text;
    told = so_far;
    event = e;
    next = item_at events k e rest next;
    stops = stops;
    own = own;
    is = is ∙ ap (λ m. text ++ numbered m (steps_text total mid now)) counted;
  }
