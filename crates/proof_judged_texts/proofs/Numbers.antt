-- Numbers for all names, which those of a table keep.
use Rattle.std.proofs.Common.{◌≡◌, ◌≢◌, ℕ, zero, suc, ◌+◌, ◌*◌, ◌<◌, Bool, true, false, cond, List, [], ◌∷◌, ◌++◌, length, refl, ap, sym, ◌∙◌, arith, ℤ, pos, negsuc, inl, inr}
use Rattle.std.specs.Prelude.{nat_eq}
use Rattle.std.specs.Cmp.Lexicographic.{bytes_decides, pointwise}
use Rattle.std.proofs.lemmas.Bool.{cases_Bool}
use Rattle.xa_xid.specs.Xids.{XidParts}
use Rattle.judge_script.specs.Numbers.{AreApartNames, IsPlace}

-- lists of numbers as numbers

abbrev shift : ℕ → ℕ → ℕ
shift zero m = m
shift (suc k) m = 2 * shift k m

shift_some : (x a : ℕ) → 0 < shift x (2 * a + 1)
shift_some zero a = omega arith
shift_some (suc x) a = omega (arith, shift_some x a)

shift_one : (x y a b : ℕ) → shift x (2 * a + 1) ≡ shift y (2 * b + 1) → (x ≡ y) × (a ≡ b)
shift_one zero zero a b e = (refl, omega arith)
shift_one zero (suc y) a b e = absurd (omega arith)
shift_one (suc x) zero a b e = absurd (omega arith)
shift_one (suc x) (suc y) a b e =
    let h = shift_one x y a b (omega arith) in (ap (λ n. suc n) h.0, h.1)

abbrev code : List ℕ → ℕ
code [] = 0
code (x ∷ xs) = shift x (2 * code xs + 1)

code_one : (a b : List ℕ) → code a ≡ code b → a ≡ b
code_one [] [] e = refl
code_one [] (y ∷ ys) e = absurd (omega (arith, shift_some y (code ys)))
code_one (x ∷ xs) [] e = absurd (omega (arith, shift_some x (code xs)))
code_one (x ∷ xs) (y ∷ ys) e =
    let h = shift_one x y (code xs) (code ys) e in
    let rest : xs ≡ ys = code_one xs ys h.1 in
    ap (λ (n : ℕ). n ∷ xs) h.0 ∙ ap (λ (q : List ℕ). y ∷ q) rest

-- the number of a name: its place among these, or a greater one

abbrev alike : List ℕ → List ℕ → Bool
alike a b = pointwise nat_eq a b

abbrev pub number_by : {A : Type 0} → (A → List ℕ) → List A → A → ℕ
number_by key [] x = code (key x)
number_by key (y ∷ ys) x = cond (alike (key x) (key y)) 0 (suc (number_by key ys x))

step_one : (p q : Bool) (m n : ℕ) (P : Type 0) → cond p 0 (suc m) ≡ cond q 0 (suc n)
    → (p ≡ true → q ≡ true → P) → (m ≡ n → P) → P
step_one true true m n P e both more = both refl refl
step_one true false m n P e both more = absurd (omega arith)
step_one false true m n P e both more = absurd (omega arith)
step_one false false m n P e both more = more (omega arith)

pub number_one : {A : Type 0} (key : A → List ℕ) → ((x y : A) → key x ≡ key y → x ≡ y)
    → (ys : List A) (x z : A)
    → number_by key ys x ≡ number_by key ys z → x ≡ z
number_one key inj [] x z e = inj x z (code_one (key x) (key z) e)
number_one key inj (y ∷ ys) x z e =
    step_one (alike (key x) (key y)) (alike (key z) (key y)) (number_by key ys x)
    (number_by key ys z) (x ≡ z) e
    (λ p q. inj x z ((bytes_decides (key x) (key y)).0 p ∙ sym ((bytes_decides (key z) (key y)).0 q)))
    (λ more. number_one key inj ys x z more)

apart_more : {A : Type 0} (y : A) (ys : List A) → AreApartNames (y ∷ ys) → AreApartNames ys
apart_more y ys h = λ i j d lt within. h (suc i) (suc j) d (omega arith) (omega arith)

unlike : (a b : List ℕ) → a ≢ b → alike a b ≡ false
unlike a b h = elim (cases_Bool (alike a b)) [ inl t ↦ absurd (h ((bytes_decides a b).0 t)) | inr f ↦ f ]

-- a name of the list has its place
pub number_place : {A : Type 0} (key : A → List ℕ) → ((x y : A) → key x ≡ key y → x ≡ y)
    → (ys : List A) (k : ℕ) (x : A)
    → AreApartNames ys → IsPlace ys k x → number_by key ys x ≡ k
number_place key inj [] k x apart (lt, is) = absurd (omega arith)
number_place key inj (y ∷ ys) zero x apart (lt, is) =
    let same : alike (key x) (key y) ≡ true = (bytes_decides (key x) (key y)).1 (ap key (sym is))
    in rw same refl
number_place key inj (y ∷ ys) (suc k) x apart (lt, is) =
    let differs : y ≢ x = λ e. apart 0 (suc k) x (omega arith) lt (e ∙ sym is) in
    let no : alike (key x) (key y) ≡ false = unlike (key x) (key y) (λ e. differs (sym (inj x y e))) in
    let within : k < length ys = omega arith in
    rw no (ap (λ n. suc n) (number_place key inj ys k x (apart_more y ys apart) (within, is)))

-- the key of a word is the word, and that of an XID has its parts

abbrev pub word_key : List ℕ → List ℕ
word_key w = w

pub word_key_one : (a b : List ℕ) → word_key a ≡ word_key b → a ≡ b
word_key_one a b e = e

abbrev sign : ℤ → ℕ
sign (pos n) = 0
sign (negsuc n) = 1

abbrev size : ℤ → ℕ
size (pos n) = n
size (negsuc n) = n

format_one : (y z : ℤ) → sign y ≡ sign z → size y ≡ size z → y ≡ z
format_one (pos m) (pos n) e f = ap (λ (k : ℕ). pos k) f
format_one (pos m) (negsuc n) e f = absurd (omega arith)
format_one (negsuc m) (pos n) e f = absurd (omega arith)
format_one (negsuc m) (negsuc n) e f = ap (λ (k : ℕ). negsuc k) f

-- two lists of which the first parts are as long
pub append_one : {A : Type 0} (a b c d : List A) → length a ≡ length c → a ++ b ≡ c ++ d → (a ≡ c) × (b ≡ d)
append_one [] b [] d long e = (refl, e)
append_one [] b (y ∷ c) d long e = absurd (omega arith)
append_one (x ∷ a) b [] d long e = absurd (omega arith)
append_one (x ∷ a) b (y ∷ c) d long e =
    let first : x ≡ y = cc in
    let rest : a ++ b ≡ c ++ d = cc in
    let h = append_one a b c d (omega arith) rest in
    (ap (λ n. n ∷ a) first ∙ ap (λ q. y ∷ q) h.0, h.1)

abbrev pub xid_key : XidParts → List ℕ
xid_key x = sign x.format ∷ size x.format ∷ length x.gtrid ∷ (x.gtrid ++ x.bqual)

abbrev parts : ℤ → List ℕ → List ℕ → XidParts
parts format gtrid bqual = record { format = format; gtrid = gtrid; bqual = bqual }

key_parts : (a b c : ℕ) (d : List ℕ) (e f g : ℕ) (h : List ℕ) → a ∷ b ∷ c ∷ d ≡ e ∷ f ∷ g ∷ h
    → (a ≡ e) × (b ≡ f) × (c ≡ g) × (d ≡ h)
key_parts a b c d e f g h is = (cc, cc, cc, cc)

pub xid_key_one : (x y : XidParts) → xid_key x ≡ xid_key y → x ≡ y
xid_key_one x y e =
    let (s, z, long, rest) = key_parts (sign x.format) (size x.format) (length x.gtrid) (x.gtrid ++ x.bqual)
    (sign y.format) (size y.format) (length y.gtrid) (y.gtrid ++ y.bqual) e in
    let (gtrid, bqual) = append_one x.gtrid x.bqual y.gtrid y.bqual long rest in
    ap (λ (f : ℤ). parts f x.gtrid x.bqual) (format_one x.format y.format s z)
    ∙ ap (λ (g : List ℕ). parts y.format g x.bqual) gtrid
    ∙ ap (λ (b : List ℕ). parts y.format y.gtrid b) bqual
