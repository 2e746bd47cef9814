-- A block that is broken is told by the head of another after it.
use Rattle.std.proofs.Common.{◌≡◌, ◌<◌, ◌+◌, ◌||◌, ◌^◌, ℕ, Bool, true, false, if◌then◌else◌, List, [], ◌∷◌, ◌++◌, length, take, drop, inl, inr, refl, sym, ap, ◌∙◌, arith, append_assoc, length-append, take-append-drop}
use Rattle.file_blocks.specs.Blocks.{behind, has_head, head_text, is_damaged, is_head, number_in}
use Rattle.file_blocks.specs.Laws.{BrokenBlocksAreTold}
use Rattle.file_blocks.proofs.Reading.{front_of, head_size, rest_of, told_size}
use Rattle.file_blocks.proofs.Tails.{head_stands}

or_true : (a b : Bool) → b ≡ true → (a || b) ≡ true
or_true true b e = refl
or_true false b e = e

-- a head that stands somewhere is found
finds : (number place : ℕ) (t rest : List ℕ) → is_head number (place + length t) rest ≡ true
    → has_head number place (t ++ rest) ≡ true
finds number place [] [] e = absurd (cc)
finds number place [] (b ∷ bs) e =
    let here : is_head number place (b ∷ bs) ≡ true =
    ap (λ n. is_head number n (b ∷ bs)) (omega arith) ∙ e in
    ap (λ (x : Bool). x || has_head number (place + 1) bs) here
finds number place (b ∷ bs) rest e =
    or_true (is_head number place (b ∷ (bs ++ rest))) (has_head number (place + 1) (bs ++ rest))
    (finds number (place + 1) bs rest (ap (λ n. is_head number n rest) (omega arith) ∙ e))

abbrev damage_of : ℕ → ℕ → List ℕ → Bool → Bool
damage_of number place bytes b = if b
    then has_head number (place + (72 + number_in (take 72 bytes)))
    (drop (number_in (take 72 bytes)) (drop 72 bytes))
    else has_head number place bytes

told : (number place : ℕ) (p t q more : List ℕ) → length p < 2 ^ 64 → length t ≡ 72 + length p
    → take 72 t ≡ head_text number place p
    → is_damaged number place (t ++ (head_text number (behind place p) q ++ more)) ≡ true
told number place p t q more h size front =
    let rest = head_text number (behind place p) q ++ more in
    let body = drop 72 t in
    let parts : t ++ rest ≡ head_text number place p ++ (body ++ rest) =
    ap (λ x. x ++ rest) (sym (take-append-drop 72 t) ∙ ap (λ x. x ++ body) front)
    ∙ append_assoc (head_text number place p) body rest in
    let long : length body ≡ length p =
    omega (
      arith,
      size,
      ap length (sym (take-append-drop 72 t) ∙ ap (λ x. x ++ body) front),
      length-append (head_text number place p) body,
      head_size number place p,
    ) in
    let stands : is_head number place (t ++ rest) ≡ true =
    ap (is_head number place) parts ∙ head_stands number place p (body ++ rest) in
    let tells : number_in (take 72 (t ++ rest)) ≡ length p =
    ap (λ x. number_in (take 72 x)) parts
    ∙ ap number_in (front_of 72 (head_text number place p) (body ++ rest) (head_size number place p))
    ∙ told_size number place p h in
    let after : drop 72 (t ++ rest) ≡ body ++ rest =
    ap (drop 72) parts ∙ rest_of 72 (head_text number place p) (body ++ rest) (head_size number place p) in
    let next : drop (number_in (take 72 (t ++ rest))) (drop 72 (t ++ rest)) ≡ rest =
    (λ i. drop (tells i) (after i)) ∙ rest_of (length p) body rest long in
    let zero : behind place p + 0 ≡ behind place p = omega arith in
    let there : is_head number (behind place p + 0) rest ≡ true =
    ap (λ n. is_head number n rest) zero ∙ head_stands number (behind place p) q more in
    ap (damage_of number place (t ++ rest)) stands
    ∙ (λ i. has_head number (place + (72 + tells i)) (next i))
    ∙ finds number (behind place p) [] rest there

pub broken_told : BrokenBlocksAreTold
broken_told number place p t q more h size (inl front) = told number place p t q more h size front
broken_told number place p t q more h size (inr none) =
    let rest = head_text number (behind place p) q ++ more in
    let at : place + length t ≡ behind place p = omega (arith, size) in
    ap (damage_of number place (t ++ rest)) none
    ∙ finds number place t rest (ap (λ n. is_head number n rest) at
    ∙ head_stands number (behind place p) q more)
