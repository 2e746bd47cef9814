use Rattle.std.proofs.Common.{◌≡◌, ◌∙◌, ap, sym, refl, ℕ, zero, suc, ◌+◌, List, [], ◌∷◌, ◌++◌, Some, slice_get, take, arith}
use Rattle.std.proofs.lemmas.Option.{none-some, same_Some}
use Rattle.tree_journal.proofs.short_steps.ShortSteps.entries.Goals as goal

-- a list up to after a place is that up to the place, and what is there
one_more : {A : Type 0} (xs : List A) (i : ℕ) (x : A) → slice_get xs i ≡ Some x
    → take i xs ++ x ∷ [] ≡ take (suc i) xs
one_more [] i x e = absurd (none-some x e)
one_more (y ∷ xs) zero x e = ap (λ z. z ∷ []) (sym (same_Some y x e))
one_more (y ∷ xs) (suc i) x e = ap (λ zs. y ∷ zs) (one_more xs i x e)

pub loop-place-preserved : goal.loop-place-preserved
loop-place-preserved c =
    c.in_ok-push.ensures.items
    ∙ ap (λ zs. zs ++ c.unwrap.result ∷ []) c.loop-place.invariant
    ∙ one_more c.args.self.now.entries c.loop-place.place c.unwrap.result
    (sym c.in_ok-entry.ensures ∙ c.unwrap.ensures)
    ∙ ap (λ n. take n c.args.self.now.entries) (behind c.loop-place.place)
  where
    behind : (n : ℕ) → suc n ≡ n + 1
    behind n = omega arith
