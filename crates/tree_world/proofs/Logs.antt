-- The logs of the processes.
use Rattle.std.proofs.Common.{◌≡◌, ◌∙◌, ◌+◌, ◌<◌, ℕ, List, [], ◌∷◌, ◌++◌, length, map, take, get_or, ap, sym}
use Rattle.std.proofs.lemmas.List.{map_more, map_push}

pub one_more : {A B C : Type 0} (f : A → B) (g : C → B) (xs all : List A) (x : A)
    (ys : List C) (i : ℕ) (y : C)
    → all ≡ xs ++ x ∷ [] → map f xs ≡ map g (take i ys) → i < length ys → y ≡ get_or ys i y → f x ≡ g y
    → map f all ≡ map g (take (i + 1) ys)
one_more f g xs all x ys i y pushed before within at is =
    ap (λ q. map f q) pushed ∙ map_push f xs x ∙ ap (λ q. q ++ f x ∷ []) before
    ∙ ap (λ q. map g (take i ys) ++ q ∷ []) (is ∙ ap g at) ∙ sym (map_more g ys i y within)
