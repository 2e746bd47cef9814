-- What captions say.
use Rattle.std.proofs.Common.{◌≡◌, ◌∙◌, ap, sym, ℕ, refl, Option, Some, List, [], ◌∷◌, ◌++◌, map, option_map}
use Rattle.std.proofs.lemmas.List.{map-append}
use Rattle.picture_shapes.specs.declared.shapes.Shape.{Shape}
use Rattle.picture_run.specs.Captions.{Caption, caption_of, said_of}

says : Option Caption → Option (List ℕ × List ℕ)
says c = option_map (λ (d : Caption). (d.number, d.words)) c

said_map : (xs : List Shape) → map said_of xs ≡ map says (map caption_of xs)
unfolding says
said_map [] = refl
said_map (x ∷ xs) = ap (λ ys. said_of x ∷ ys) (said_map xs)

-- one caption more says its number and its words
pub said_more : (old new : List Shape) (c : Caption) (number words : List ℕ)
    → map caption_of new ≡ map caption_of old ++ Some c ∷ [] → c.number ≡ number → c.words ≡ words
    → map said_of new ≡ map said_of old ++ Some (number, words) ∷ []
unfolding says
said_more old new c number words is numbered worded =
    said_map new ∙ ap (λ xs. map says xs) is ∙ map-append says (map caption_of old) (Some c ∷ [])
    ∙ ap (λ xs. xs ++ Some (c.number, c.words) ∷ []) (sym (said_map old))
    ∙ ap (λ n. map said_of old ++ Some (n, c.words) ∷ []) numbered
    ∙ ap (λ w. map said_of old ++ Some (number, w) ∷ []) worded
