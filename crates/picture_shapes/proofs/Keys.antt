-- The entries of a legend, one after another.
use Rattle.std.proofs.Common.{◌≡◌, ◌∙◌, ap, sym, arith, ℕ, ◌+◌, ◌<◌, ◌≤◌, true, false, if◌then◌else◌, List, [], ◌∷◌, ◌++◌, length, map, get_or, take, take_all, Bor}
use Rattle.std.proofs.lemmas.List.{append-nil, append_assoc, length-append, map-append, take_more}
use Rattle.std.proofs.lemmas.List.Elements.{filter-append}
use Rattle.picture_shapes.specs.declared.frame.PictureFrame.{PictureFrame}
use Rattle.picture_shapes.specs.declared.signs.Sign.{Sign}
use Rattle.picture_shapes.specs.declared.signs.Signs.{Signs}
use Rattle.picture_shapes.specs.Head.{Key, has, key_of, key_text, keys_among, keys_text}

-- of the first N of these entries those whose signs the picture has
abbrev pub first : Signs → List (Sign × Bor (List ℕ) × Bor (List ℕ)) → ℕ → List Key
first s xs n = keys_among s (map key_of (take n xs))

-- the first entries, and what is among them of one more
next : (s : Signs) (xs : List (Sign × Bor (List ℕ) × Bor (List ℕ))) (n : ℕ)
    (d : Sign × Bor (List ℕ) × Bor (List ℕ))
    → n < length xs → first s xs (n + 1) ≡ first s xs n ++ keys_among s (key_of (get_or xs n d) ∷ [])
next s xs n d there =
    ap (λ ys. keys_among s (map key_of ys)) (take_more xs n d there)
    ∙ ap (λ ks. keys_among s ks) (map-append key_of (take n xs) (get_or xs n d ∷ []))
    ∙ filter-append (λ (k : Key). has s k.sign) (map key_of (take n xs)) (key_of (get_or xs n d) ∷ [])

-- the picture has its sign
pub one_more : (s : Signs) (xs : List (Sign × Bor (List ℕ) × Bor (List ℕ))) (n : ℕ)
    (d : Sign × Bor (List ℕ) × Bor (List ℕ))
    → n < length xs → has s (get_or xs n d).0 ≡ true → first s xs (n + 1)
    ≡ first s xs n ++ key_of (get_or xs n d) ∷ []
one_more s xs n d there is =
    next s xs n d there
    ∙ ap (λ b. first s xs n ++ (if b then key_of (get_or xs n d) ∷ [] else [])) is

-- it does not
pub no_more : (s : Signs) (xs : List (Sign × Bor (List ℕ) × Bor (List ℕ))) (n : ℕ)
    (d : Sign × Bor (List ℕ) × Bor (List ℕ))
    → n < length xs → has s (get_or xs n d).0 ≡ false → first s xs (n + 1) ≡ first s xs n
no_more s xs n d there is =
    next s xs n d there
    ∙ ap (λ b. first s xs n ++ (if b then key_of (get_or xs n d) ∷ [] else [])) is
    ∙ append-nil (first s xs n)

-- before the first there is no text
pub none : (f : PictureFrame) (begin : List ℕ) → begin ≡ begin ++ keys_text f 0 []
unfolding keys_text
none f begin = sym (append-nil begin)

-- the text of entries and of one more
text_more : (f : PictureFrame) (n : ℕ) (ks : List Key) (k : Key)
    → keys_text f n (ks ++ k ∷ []) ≡ keys_text f n ks ++ key_text f (n + length ks) k.drawn k.meaning
unfolding keys_text
text_more f n [] k =
    let here : n ≡ n + 0 = omega arith in
    append-nil (key_text f n k.drawn k.meaning) ∙ ap (λ m. key_text f m k.drawn k.meaning) here
text_more f n (x ∷ ks) k =
    let there : (n + 1) + length ks ≡ n + length (x ∷ ks) = omega arith in
    ap (λ t. key_text f n x.drawn x.meaning ++ t) (text_more f (n + 1) ks k)
    ∙ sym (append_assoc (key_text f n x.drawn x.meaning) (keys_text f (n + 1) ks)
    (key_text f ((n + 1) + length ks) k.drawn k.meaning))
    ∙ ap (λ m. (key_text f n x.drawn x.meaning ++ keys_text f (n + 1) ks) ++ key_text f m k.drawn k.meaning)
    there

-- a text with one more entry of a legend
pub added : (f : PictureFrame) (begin old new : List ℕ) (ks more : List Key) (k : Key) (n : ℕ)
    → old ≡ begin ++ keys_text f 0 ks → n ≡ length ks → new ≡ old ++ key_text f n k.drawn k.meaning
    → more ≡ ks ++ k ∷ []
    → new ≡ begin ++ keys_text f 0 more
added f begin old new ks more k n were counted is with_it =
    let zero : length ks ≡ 0 + length ks = omega arith in
    is ∙ ap (λ t. t ++ key_text f n k.drawn k.meaning) were
    ∙ append_assoc begin (keys_text f 0 ks) (key_text f n k.drawn k.meaning)
    ∙ ap (λ m. begin ++ (keys_text f 0 ks ++ key_text f m k.drawn k.meaning)) (counted ∙ zero)
    ∙ ap (λ t. begin ++ t) (sym (text_more f 0 ks k)) ∙ ap (λ xs. begin ++ keys_text f 0 xs) (sym with_it)

-- once all of them were gone through
pub all : (s : Signs) (xs : List (Sign × Bor (List ℕ) × Bor (List ℕ))) (n : ℕ) → length xs ≤ n
    → first s xs n ≡ keys_among s (map key_of xs)
all s xs n over = ap (λ ys. keys_among s (map key_of ys)) (take_all n xs over)

-- how many there are of one more
pub one_longer : (ks more : List Key) (k : Key) (n m : ℕ) → n ≡ length ks → m ≡ n + 1 → more ≡ ks ++ k ∷ []
    → m ≡ length more
one_longer ks more k n m counted is with_it =
    is ∙ ap (λ i. i + 1) counted ∙ sym (length-append ks (k ∷ [])) ∙ ap (λ xs. length xs) (sym with_it)
