-- The steps that are kept, with the places of their parts.
use Rattle.std.proofs.Common.{◌≡◌, ◌∙◌, ap, refl, ℕ, zero, suc, ◌-◌, ◌<◌, ◌≤◌, Option, Some, None, List, [], ◌∷◌, ◌++◌, length, option_map, take, arith}
use Rattle.std.specs.Prelude.{slice_get, slice_index_or}
use Rattle.tree_journal.specs.declared.short_step.Ends.{Ends}
use Rattle.tree_journal.specs.declared.short_step.LastStep.{LastStep}
use Rattle.tree_journal.specs.declared.short_step.ShortStep.{ShortStep}
use Rattle.tree_journal.specs.Steps.{IsWhole, Parts, ends_after, ends_of, entries_of, first_starts, parts_placed, placed_from, placed_step, placed_steps, short_step}
use Rattle.tree_journal.proofs.Steps.{placed_last, step_of}

-- they are as many
pub placed_length : (starts : Ends) (xs : List ShortStep) → length (placed_from starts xs) ≡ length xs
placed_length starts [] = refl
placed_length starts (x ∷ xs) = ap (λ n. suc n) (placed_length x.ends xs)

-- where the parts of the first steps end
ends_found : (starts : Ends) (xs : List ShortStep) (k : ℕ) (d : ShortStep) → k < length xs
    → (slice_index_or xs k d).ends ≡ ends_after starts (take (suc k) xs)
ends_found starts [] k d h = absurd (omega (arith, h))
ends_found starts (x ∷ xs) zero d h = refl
ends_found starts (x ∷ xs) (suc k) d h = ends_found x.ends xs k d (omega (arith, h))

-- where the parts of the step at a place start, those of the step before it end
pub starts_found : (starts : Ends) (xs : List ShortStep) (k : ℕ) (d : ShortStep) → (k ≡ 0 → ⊥)
    → k < length xs → (slice_index_or xs (k - 1) d).ends ≡ ends_after starts (take k xs)
starts_found starts xs zero d other h = absurd (other refl)
starts_found starts xs (suc k) d other h =
    let before : suc k - 1 ≡ k = omega arith in
    rw before (ends_found starts xs k d (omega (arith, h)))

-- a step, with the places of its parts
pub placed_at : (starts : Ends) (xs : List ShortStep) (k : ℕ)
    → slice_get (placed_from starts xs) k
    ≡ option_map (placed_step (ends_after starts (take k xs))) (slice_get xs k)
placed_at starts [] k = refl
placed_at starts (x ∷ xs) zero = refl
placed_at starts (x ∷ xs) (suc k) = placed_at x.ends xs k

-- if none is found, there are not N
pub none_found : {A : Type 0} (xs : List A) (k : ℕ) → slice_get xs k ≡ None → length xs ≤ k
none_found [] k is = omega arith
none_found (x ∷ xs) zero is = absurd (cc)
none_found (x ∷ xs) (suc k) is = omega (arith, none_found xs k is)

-- those of a step more start where those of the last one end
placed_behind : (starts : Ends) (xs : List ShortStep) (x : ShortStep)
    → placed_from starts (xs ++ x ∷ []) ≡ placed_from starts xs ++ placed_step (ends_after starts xs) x ∷ []
placed_behind starts [] x = refl
placed_behind starts (y ∷ xs) x = ap (λ ys. placed_step starts y ∷ ys) (placed_behind y.ends xs x)

pub ends_behind : (starts : Ends) (xs : List ShortStep) (x : ShortStep)
    → ends_after starts (xs ++ x ∷ []) ≡ x.ends
ends_behind starts [] x = refl
ends_behind starts (y ∷ xs) x = ends_behind y.ends xs x

-- the entries stay as the last step is kept
pub kept : (ps : Parts) (xs : List ShortStep) (l : Option LastStep) (y : LastStep) → l ≡ Some y
    → ends_after first_starts xs ≡ ends_of ps → IsWhole ps (placed_steps xs) l
    → (entries_of (parts_placed ps y) (placed_steps (xs ++ short_step ps y ∷ [])) None
    ≡ entries_of ps (placed_steps xs) l)
    × IsWhole (parts_placed ps y) (placed_steps (xs ++ short_step ps y ∷ [])) None
kept ps xs l y is ends w =
    let steps : placed_steps (xs ++ short_step ps y ∷ []) ≡ placed_steps xs ++ step_of ps y ∷ [] =
    placed_behind first_starts xs (short_step ps y)
    ∙ ap (λ e. placed_steps xs ++ placed_step e (short_step ps y) ∷ []) ends in
    rw steps (placed_last ps (placed_steps xs) l y is w)
