-- Bytes in hexadecimal: each text of pairs of digits is the spelling of bytes, and no other is.
use Rattle.std.proofs.Common.{◌≡◌, ℕ, zero, suc, ◌-◌, ◌*◌, ◌/◌, ◌%◌, ◌<◌, ◌≤◌, ◌^◌, Bool, true, false, not, ◌&&◌, ◌||◌, if◌then◌else◌, eqb, ltb, List, [], ◌∷◌, ◌++◌, length, take, get_or, ◌+◌, slice_index, Result, Ok, refl, ap, sym, ◌∙◌, arith, inl, inr, length-take}
use Rattle.std.specs.Prelude.{nat_le}
use Rattle.std.specs.List.{All, list_all}
use Rattle.std.specs.Fmt.{digit_glyph, digits, padded_integral, format_spec}
use Rattle.std.proofs.lemmas.Bool.{and_parts, cases_lt, eqb-true, ltb-true}
use Rattle.std.proofs.lemmas.Bool.Decides.{nat_tests}
use Rattle.std.proofs.lemmas.Fmt.{hex_byte}
use Rattle.std.proofs.lemmas.List.{take_more, get_or_past}
use Rattle.std.proofs.lemmas.List.Elements.{All-cons, All-head, All-tail, All-nil}
use Rattle.hex.specs.Hex.{IsBytes, encode_lower, encode_with, lower_digits, decode_pairs, decode_sized}
use Rattle.hex.proofs.HexLemmas.{length-encode_with, IsDigits-lower_digits, decode_pairs-encode_with}
use Rattle.spellings.specs.HexText.{is_lower_digit, IsHexadecimal, Spells}

-- ---- the sixteen digits

-- a test of each number below n, which computes
abbrev all_below : (ℕ → Bool) → ℕ → Bool
all_below test zero = true
all_below test (suc n) = test n && all_below test n

at_below : (test : ℕ → Bool) (n k : ℕ) → all_below test n ≡ true → k < n → test k ≡ true
at_below test zero k h lt = absurd (omega arith)
at_below test (suc n) k h lt =
    let both = and_parts (test n) (all_below test n) h in
    elim (cases_lt k n) [
      | inl below ↦ at_below test n k both.1 below
      | inr top ↦ (let e : k ≡ n = omega arith in rw e both.0)
    ]

-- the place of a digit in the table
abbrev place : ℕ → ℕ
place c = if nat_le 97 c then c - 87 else c - 48

abbrev stands : ℕ → Bool
stands c = not (is_lower_digit c) || (eqb (slice_index lower_digits (place c)) c && ltb (place c) 16)

abbrev is_digit : ℕ → Bool
is_digit d = is_lower_digit (slice_index lower_digits d) && eqb (digit_glyph false d)
    (slice_index lower_digits d)

digit_small : (c : ℕ) → is_lower_digit c ≡ true → c < 103
digit_small c h = grind (arith, nat_tests)

or_right : (a b : Bool) → (not a || b) ≡ true → a ≡ true → b ≡ true
or_right true b h e = h
or_right false b h e = cc

digit_at : (c : ℕ) → is_lower_digit c ≡ true → (slice_index lower_digits (place c) ≡ c) × (place c < 16)
digit_at c h =
    let both = and_parts (eqb (slice_index lower_digits (place c)) c) (ltb (place c) 16)
    (or_right (is_lower_digit c) _ (at_below stands 103 c refl (digit_small c h)) h) in
    (eqb-true _ _ both.0, ltb-true _ _ both.1)

table_at : (d : ℕ) → d < 16 → (is_lower_digit (slice_index lower_digits d) ≡ true)
    × (digit_glyph false d ≡ slice_index lower_digits d)
table_at d lt =
    let both = and_parts (is_lower_digit (slice_index lower_digits d))
    (eqb (digit_glyph false d) (slice_index lower_digits d)) (at_below is_digit 16 d refl lt) in
    (both.0, eqb-true _ _ both.1)

abbrev is_byte : ℕ → Type 0
is_byte b = b < 256

-- ---- from texts to bytes

spell_more : (a b : ℕ) (rest bytes : List ℕ) → is_lower_digit a ≡ true → is_lower_digit b ≡ true
    → Spells rest bytes → Spells (a ∷ b ∷ rest) ((place a * 16 + place b) ∷ bytes)
unfolding encode_with
spell_more a b rest bytes da db h =
    let high = digit_at a da in
    let low = digit_at b db in
    let small = high.1 in
    let small_too = low.1 in
    let e1 : (place a * 16 + place b) / 16 ≡ place a = omega arith in
    let e2 : (place a * 16 + place b) % 16 ≡ place b = omega arith in
    let fits : place a * 16 + place b < 256 = omega arith in
    let text : a ∷ b ∷ rest ≡ encode_lower ((place a * 16 + place b) ∷ bytes) = rw (e1, e2, high.0, low.0)
    (ap (λ (t : List ℕ). a ∷ b ∷ t) h.spelled) in
    record { fits = All-cons is_byte (place a * 16 + place b) bytes fits h.fits; spelled = text }

pub spells_some : (text : List ℕ) → length text % 2 ≡ 0 → list_all is_lower_digit text ≡ true
    → IsHexadecimal text
unfolding encode_with
spells_some [] even digits = ([], record { fits = All-nil is_byte; spelled = refl })
spells_some (a ∷ []) even digits = absurd (omega arith)
spells_some (a ∷ b ∷ rest) even digits =
    let first = and_parts (is_lower_digit a) (list_all is_lower_digit (b ∷ rest)) digits in
    let second = and_parts (is_lower_digit b) (list_all is_lower_digit rest) first.1 in
    let more = spells_some rest (omega arith) second.1 in
    ((place a * 16 + place b) ∷ more.0, spell_more a b rest more.0 first.0 second.0 more.1)

-- ---- from bytes to texts

lower_text : (bytes : List ℕ) → All is_byte bytes → list_all is_lower_digit (encode_lower bytes) ≡ true
unfolding encode_with
lower_text [] fits = refl
lower_text (b ∷ bytes) fits =
    let byte : b < 256 = All-head is_byte b bytes fits in
    let high = table_at (b / 16) (omega arith) in
    let low = table_at (b % 16) (omega arith) in
    rw (high.0, low.0) (lower_text bytes (All-tail is_byte b bytes fits))

pub spelled_lower : (text : List ℕ) → IsHexadecimal text → list_all is_lower_digit text ≡ true
spelled_lower text (bytes, h) = rw h.spelled (lower_text bytes h.fits)

pub length-spelled : (text bytes : List ℕ) → Spells text bytes → length text ≡ 2 * length bytes
length-spelled text bytes h = ap length h.spelled ∙ length-encode_with lower_digits bytes

pub tells : (text : List ℕ) (test : Bool) → length text % 2 ≡ 0 → test ≡ list_all is_lower_digit text
    → (test ≡ true → IsHexadecimal text) × (IsHexadecimal text → test ≡ true)
tells text test even is = (λ yes. spells_some text even (sym is ∙ yes), λ h. is ∙ spelled_lower text h)

pub spelled_even : (text : List ℕ) → IsHexadecimal text → length text % 2 ≡ 0
spelled_even text (bytes, h) = let n = length-spelled text bytes h in omega arith

bytes_fit : (bytes : List ℕ) → All is_byte bytes → IsBytes bytes
bytes_fit bytes fits i = elim (cases_lt i (length bytes))
    [ inl lt ↦ fits i 0 lt | inr le ↦ (let e = get_or_past bytes i 0 le in omega (arith, e)) ]

-- ---- decoding

pub decodes : (text bytes : List ℕ) (n : ℕ) → Spells text bytes → length text ≡ 2 * n
    → decode_sized text n ≡ Ok bytes
decodes text bytes n h size =
    let even : eqb (length text % 2) 1 ≡ false = grind (arith, nat_tests) in
    let half : eqb (length text / 2) n ≡ true = grind (arith, nat_tests) in
    rw (even, half) (ap (decode_pairs 0) h.spelled
    ∙ decode_pairs-encode_with lower_digits IsDigits-lower_digits 0 bytes (bytes_fit bytes h.fits))

same_ok : {E : Type 0} (x y : List ℕ) (r s : Result (List ℕ) E) → r ≡ Ok x → s ≡ Ok y → r ≡ s → x ≡ y
same_ok x y r s e f g = cc

-- one text is the spelling of one list of bytes
pub one_spelling : (text xs ys : List ℕ) → Spells text xs → Spells text ys → xs ≡ ys
one_spelling text xs ys h k =
    let n : length text ≡ 2 * length ys = length-spelled text ys k in
    same_ok xs ys (decode_sized text (length ys)) (decode_sized text (length ys))
    (decodes text xs (length ys) h n) (decodes text ys (length ys) k n) refl

-- ---- writing

encode_append : (xs ys : List ℕ) → encode_lower (xs ++ ys) ≡ encode_lower xs ++ encode_lower ys
unfolding encode_with
encode_append [] ys = refl
encode_append (x ∷ xs) ys = ap (λ (t : List ℕ). slice_index lower_digits (x / 16) ∷ slice_index
    lower_digits (x % 16) ∷ t) (encode_append xs ys)

pub encode_nil : encode_lower [] ≡ []
unfolding encode_with
encode_nil = refl

-- what is written of one byte
abbrev pub two_digits : ℕ → List ℕ
two_digits b = padded_integral (format_spec 32 0 4 2 (2 ^ 64 - 1)) false [] (digits 16 false b)

byte_text : (b : ℕ) → b < 256 → two_digits b ≡ encode_lower (b ∷ [])
unfolding encode_with
byte_text b lt =
    let high = table_at (b / 16) (omega arith) in
    let low = table_at (b % 16) (omega arith) in
    hex_byte false b lt ∙ rw (high.1, low.1) refl

pub written_more : (bytes : List ℕ) (i : ℕ) → i < length bytes → get_or bytes i 0 < 256
    → encode_lower (take i bytes) ++ two_digits (get_or bytes i 0) ≡ encode_lower (take (i + 1) bytes)
written_more bytes i lt fits =
    ap (λ (t : List ℕ). encode_lower (take i bytes) ++ t) (byte_text (get_or bytes i 0) fits)
    ∙ sym (encode_append (take i bytes) (get_or bytes i 0 ∷ []))
    ∙ ap encode_lower (sym (take_more bytes i 0 lt))

-- there is room for the bytes of a short text
pub room : (text array : List ℕ) → IsHexadecimal text → length text ≤ 128 → length array ≡ 64
    → length text ≡ 2 * length (take (length text / 2) array)
room text array h size n = let even = spelled_even text h in omega
    (arith, length-take (length text / 2) array)
