-- From one place to the next, in search of a head.
use Rattle.std.proofs.Common.{◌≡◌, ◌<◌, ◌+◌, ◌||◌, ℕ, suc, Bool, false, List, ◌∷◌, length, drop, get_or, sym, ap, ◌∙◌, arith}
use Rattle.std.proofs.Math.Seq.{drop-cons}
use Rattle.file_blocks.specs.Blocks.{has_head, is_head}

-- if no head is at this place, one is after it or nowhere
pub one_further : (number place i : ℕ) (xs : List ℕ) → i < length xs
    → is_head number (place + i) (drop i xs) ≡ false
    → has_head number (place + i) (drop i xs) ≡ has_head number (place + (i + 1)) (drop (i + 1) xs)
one_further number place i xs h e =
    let parts : drop i xs ≡ get_or xs i 0 ∷ drop (suc i) xs = drop-cons xs i 0 h in
    let here : is_head number (place + i) (get_or xs i 0 ∷ drop (suc i) xs) ≡ false =
    ap (is_head number (place + i)) (sym parts) ∙ e in
    let next : suc i ≡ i + 1 = omega arith in
    let at : place + i + 1 ≡ place + (i + 1) = omega arith in
    ap (has_head number (place + i)) parts
    ∙ ap (λ (t : Bool). t || has_head number (place + i + 1) (drop (suc i) xs)) here
    ∙ (λ j. has_head number (at j) (drop (next j) xs))
