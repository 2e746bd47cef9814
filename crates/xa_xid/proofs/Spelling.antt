-- XIDs in text: what is read is spelled so, and what is spelled so is read.
use Rattle.std.proofs.Common.{◌≡◌, ℕ, zero, suc, ◌/◌, ◌≤◌, ◌<◌, ◌^◌, ℤ, pos, negsuc, Bool, true, false, cond, eqb, List, ◌∷◌, ◌++◌, length, get_or, Option, Some, None, refl, ap, sym, ◌∙◌, arith, append_assoc}
use Rattle.std.specs.Prelude.{codes}
use Rattle.std.specs.Fmt.{decimal, signed_decimal}
use Rattle.std.specs.Int.{w32, cast_signed, cast_unsigned}
use Rattle.std.specs.Int.RustNames.{FitsSigned}
use Rattle.std.proofs.lemmas.Bool.{eq-eqb}
use Rattle.std.proofs.lemmas.Int.{to_z-of_z}
use Rattle.std.proofs.lemmas.Bool.Decides.{nat_tests}
use Rattle.std.proofs.lemmas.Fmt.{digits_decimal, signed_decimal_injective}
use Rattle.std.proofs.lemmas.List.Sums.{AllPass-from_list_all}
use Rattle.std.proofs.lemmas.Str.Parse.{not_in_digits}
use Rattle.hex.specs.Hex.{encode_lower}
use Rattle.xa_xid.specs.declared.error.XidError.{XidError}
use Rattle.xa_xid.specs.declared.error.XidError.TheVariants.{BadFormat, GtridLength, BqualLength, Truncated, Trailing, Syntax}
use Rattle.spellings.specs.HexText.{is_lower_digit, IsHexadecimal, Spells}
use Rattle.spellings.specs.Words.{cut_at}
use Rattle.xa_xid.specs.Xids.{XidParts, FitsParts, IsXid, xid_fault}
use Rattle.xa_xid.specs.Text.{xid_text, ArePieces, IsTextFault}
use Rattle.spellings.proofs.Cuts.{Without, cut_again, cut_takes, some_is}
use Rattle.spellings.proofs.HexText.{spelled_lower, length-spelled, one_spelling}
use Rattle.xa_xid.proofs.Reading.{parts}
use Rattle.spellings.proofs.Numerals.{own}

-- ---- no colon in numbers and in hexadecimal

decimal_without : (n : ℕ) → n < 2 ^ 64 → Without 58 (decimal n)
decimal_without n lt k in' = not_in_digits own (decimal n) 58 (digits_decimal own n lt)
    (λ range. let hi = range.1 in omega arith) k in'

minus_without : (bs : List ℕ) → Without 58 bs → Without 58 (45 ∷ bs)
minus_without bs out zero lt e = let same : eqb 45 58 ≡ true = eq-eqb 45 58 e in cc
minus_without bs out (suc k) lt e = out k (omega arith) e

signed_without : (z : ℤ) → FitsSigned w32 z → Without 58 (signed_decimal z)
signed_without (pos n) fits = decimal_without n (let lt : n < 2 ^ 31 = fits.sfits in omega arith)
signed_without (negsuc n) fits = minus_without (decimal (suc n))
    (decimal_without (suc n) (let lt : n < 2 ^ 31 = fits.sfits in omega arith))

hex_without : (text : List ℕ) → IsHexadecimal text → Without 58 text
hex_without text h k lt e =
    let digit : is_lower_digit (get_or text k 0) ≡ true = AllPass-from_list_all is_lower_digit text
    (spelled_lower text h) k 0 lt in
    let no : is_lower_digit 58 ≡ true = rw e at digit in
    cc

regroup : (a b c : List ℕ) → a ++ codes ":" ++ b ++ codes ":" ++ c ≡ a ++ 58 ∷ (b ++ 58 ∷ c)
regroup a b c = simp append_assoc

-- ---- from parts to texts

abbrev pub pair : List ℕ → List ℕ → List ℕ × List ℕ
pair a b = (a, b)

spells_gtrid : (x : XidParts) → FitsParts x → Spells (encode_lower x.gtrid) x.gtrid
spells_gtrid x fits = record { fits = fits.gtrid; spelled = refl }

spells_bqual : (x : XidParts) → FitsParts x → Spells (encode_lower x.bqual) x.bqual
spells_bqual x fits = record { fits = fits.bqual; spelled = refl }

first_cut : (text : List ℕ) (x : XidParts) → FitsParts x → text ≡ xid_text x
    → cut_at 58 text ≡ Some (pair (signed_decimal x.format) (encode_lower x.gtrid
    ++ 58 ∷ encode_lower x.bqual))
first_cut text x fits e =
    ap (cut_at 58) (e ∙ regroup (signed_decimal x.format) (encode_lower x.gtrid) (encode_lower x.bqual))
    ∙ cut_again 58 (signed_decimal x.format) (encode_lower x.gtrid
    ++ 58 ∷ encode_lower x.bqual) (signed_without x.format fits.format)

second_cut : (x : XidParts) → FitsParts x
    → cut_at 58 (encode_lower x.gtrid
    ++ 58 ∷ encode_lower x.bqual) ≡ Some (pair (encode_lower x.gtrid) (encode_lower x.bqual))
second_cut x fits = cut_again 58 (encode_lower x.gtrid) (encode_lower x.bqual)
    (hex_without (encode_lower x.gtrid) (x.gtrid, spells_gtrid x fits))

pub no_colon : (text : List ℕ) → None ≡ cut_at 58 text → (x : XidParts) → FitsParts x → text ≡ xid_text x → ⊥
no_colon text none x fits e = let k = first_cut text x fits e in cc

pair_is : (a b c d : List ℕ) (o : Option (List ℕ × List ℕ)) → Some (pair a b) ≡ o → o ≡ Some (pair c d)
    → (a ≡ c) × (b ≡ d)
pair_is a b c d o e f = let s = some_is (pair a b) (pair c d) (e
    ∙ f) in (ap (λ (p : List ℕ × List ℕ). p.0) s, ap (λ (p : List ℕ × List ℕ). p.1) s)

pub one_colon : (text format rest : List ℕ) → Some (pair format rest) ≡ cut_at 58 text
    → None ≡ cut_at 58 rest → (x : XidParts) → FitsParts x → text ≡ xid_text x → ⊥
one_colon text format rest some none x fits e =
    let s = pair_is format rest _ _ (cut_at 58 text) some (first_cut text x fits e) in
    let k = second_cut x fits in
    let n : None ≡ cut_at 58 (encode_lower x.gtrid ++ 58 ∷ encode_lower x.bqual) = none
    ∙ ap (cut_at 58) s.1 in
    cc

-- the pieces of the text of an XID
pub pieces : (text format rest gtrid bqual : List ℕ) → Some (pair format rest) ≡ cut_at 58 text
    → Some (pair gtrid bqual) ≡ cut_at 58 rest → (x : XidParts) → FitsParts x → text ≡ xid_text x
    → (format ≡ signed_decimal x.format) × Spells gtrid x.gtrid × Spells bqual x.bqual
pieces text format rest gtrid bqual one two x fits e =
    let s = pair_is format rest _ _ (cut_at 58 text) one (first_cut text x fits e) in
    let t = pair_is gtrid bqual _ _ (cut_at 58 rest) two (ap (cut_at 58) s.1 ∙ second_cut x fits) in
    (s.0, record { fits = fits.gtrid; spelled = t.0 }, record { fits = fits.bqual; spelled = t.1 })

-- ---- from texts to parts

pub whole : (text format rest gtrid bqual : List ℕ) (number kept : ℤ)
    → Some (pair format rest) ≡ cut_at 58 text → Some (pair gtrid bqual) ≡ cut_at 58 rest
    → FitsSigned w32 number → kept ≡ number → format ≡ signed_decimal number → IsHexadecimal gtrid
    → IsHexadecimal bqual → (x : XidParts) × ArePieces text kept gtrid bqual x
whole text format rest gtrid bqual number kept one two fits same e (g, hg) (b, hb) =
    let first : text ≡ format ++ 58 ∷ rest = cut_takes 58 text (pair format rest) (sym one) in
    let second : rest ≡ gtrid ++ 58 ∷ bqual = cut_takes 58 rest (pair gtrid bqual) (sym two) in
    let x : XidParts = record { format = number; gtrid = g; bqual = b } in
    let text_is : text ≡ xid_text x = first ∙ ap (λ (t : List ℕ). format ++ 58 ∷ t) second
    ∙ rw (e, hg.spelled, hb.spelled)
    (sym (regroup (signed_decimal number) (encode_lower g) (encode_lower b))) in (
      x,
      record {
        fits = record { format = fits; gtrid = hg.fits; bqual = hb.fits };
        spelled = text_is;
        same_format = same;
        same_gtrid = hg;
        same_bqual = hb;
      },
    )

-- ---- what is wrong with parts

syntax_not : (b : Bool) (e : XidError) (o : Option XidError) → (Some e ≡ Some Syntax → ⊥)
    → (o ≡ Some Syntax → ⊥) → cond b (Some e) o ≡ Some Syntax → ⊥
syntax_not true e o h k is = h is
syntax_not false e o h k is = k is

none_not : (b : Bool) (o : Option XidError) → (o ≡ Some Syntax → ⊥) → cond b None o ≡ Some Syntax → ⊥
none_not true o k is = cc
none_not false o k is = k is

-- no fault of parts is a fault of syntax
never_syntax : (format : ℤ) (gtrid bqual : ℕ) → xid_fault format gtrid bqual ≡ Some Syntax → ⊥
never_syntax format gtrid bqual =
    none_not _ _ (syntax_not _ BadFormat _ (λ e. cc)
    (syntax_not _ GtridLength _ (λ e. cc) (syntax_not _ BqualLength None (λ e. cc) (λ e. cc))))

pub text_fault : (text : List ℕ) (x : XidParts) (e : XidError) → FitsParts x → text ≡ xid_text x
    → xid_fault x.format (length x.gtrid) (length x.bqual) ≡ Some e → IsTextFault text e
text_fault text x BadFormat fits is fault = (x, fits, is, fault)
text_fault text x GtridLength fits is fault = (x, fits, is, fault)
text_fault text x BqualLength fits is fault = (x, fits, is, fault)
text_fault text x Truncated fits is fault = (x, fits, is, fault)
text_fault text x Trailing fits is fault = (x, fits, is, fault)
text_fault text x Syntax fits is fault = absurd
    (never_syntax x.format (length x.gtrid) (length x.bqual) fault)

-- parts in which nothing is wrong are short
pub short : (format : ℤ) (gtrid bqual : ℕ) → xid_fault format gtrid bqual ≡ None → (gtrid ≤ 64) × (bqual ≤ 64)
short format gtrid bqual e = grind (arith, nat_tests)

-- ---- one text, one XID

signed_same : (y z : ℤ) → FitsSigned w32 y → FitsSigned w32 z → signed_decimal y ≡ signed_decimal z → y ≡ z
signed_same y z fy fz e = signed_decimal_injective y z (let lt = fy.sfits in omega arith)
    (let lt = fz.sfits in omega arith) e

-- parts that are spelled alike are the same
pub one_text : (text : List ℕ) (x y : XidParts) → FitsParts x → FitsParts y → text ≡ xid_text x
    → text ≡ xid_text y → x ≡ y
one_text text x y fx fy ex ey =
    let one = pair_is _ _ _ _ (cut_at 58 text) (sym (first_cut text x fx ex)) (first_cut text y fy ey) in
    let two = pair_is _ _ _ _ (cut_at 58 (encode_lower x.gtrid
    ++ 58 ∷ encode_lower x.bqual)) (sym (second_cut x fx)) (ap (cut_at 58) one.1 ∙ second_cut y fy) in
    let format : x.format ≡ y.format = signed_same x.format y.format fx.format fy.format one.0 in
    let gtrid : x.gtrid ≡ y.gtrid = one_spelling (encode_lower x.gtrid) x.gtrid y.gtrid (spells_gtrid x fx)
    (record { fits = fy.gtrid; spelled = two.0 }) in
    let bqual : x.bqual ≡ y.bqual = one_spelling (encode_lower x.bqual) x.bqual y.bqual (spells_bqual x fx)
    (record { fits = fy.bqual; spelled = two.1 }) in
    ap (parts x.gtrid x.bqual) format ∙ ap (λ (g : List ℕ). parts g x.bqual y.format) gtrid
    ∙ ap (λ (b : List ℕ). parts y.gtrid b y.format) bqual

pub refused : (text : List ℕ) (x : XidParts) (e : XidError) → FitsParts x → text ≡ xid_text x
    → xid_fault x.format (length x.gtrid) (length x.bqual) ≡ Some e → (y : XidParts) → IsXid y
    → text ≡ xid_text y → ⊥
refused text x e fits is fault y sound other =
    let same : x ≡ y = one_text text x y fits sound.fits is other in
    let none : xid_fault x.format (length x.gtrid) (length x.bqual) ≡ None = rw same sound.sound in
    cc

-- ---- the pieces of a text

half : (text bytes : List ℕ) → Spells text bytes → length text / 2 ≡ length bytes
half text bytes h = let n = length-spelled text bytes h in omega arith

kept_format : (text : List ℕ) (format : ℤ) (gtrid bqual : List ℕ) (x : XidParts)
    → ArePieces text format gtrid bqual x → cast_signed w32 (cast_unsigned w32 format) ≡ x.format
kept_format text format gtrid bqual x h = rw h.same_format (to_z-of_z w32 x.format h.fits.format)

-- what is wrong with the pieces is wrong with the parts
pub fault_is : (text : List ℕ) (format : ℤ) (gtrid bqual : List ℕ) (x : XidParts)
    → ArePieces text format gtrid bqual x
    → xid_fault (cast_signed w32 (cast_unsigned w32 format)) (length gtrid / 2) (length bqual / 2) ≡
    xid_fault x.format (length x.gtrid) (length x.bqual)
fault_is text format gtrid bqual x h =
    let f = kept_format text format gtrid bqual x h in
    let g = half gtrid x.gtrid h.same_gtrid in
    let b = half bqual x.bqual h.same_bqual in
    rw (f, g, b) refl

-- pieces in which nothing is wrong have room in an XID
pub piece_sizes : (text : List ℕ) (format : ℤ) (gtrid bqual : List ℕ) (x : XidParts)
    → ArePieces text format gtrid bqual x
    → xid_fault (cast_signed w32 (cast_unsigned w32 format)) (length gtrid / 2) (length bqual / 2) ≡ None
    → (length gtrid ≤ 128) × (length bqual ≤ 128)
piece_sizes text format gtrid bqual x h none =
    let s = short x.format (length x.gtrid) (length x.bqual) (sym (fault_is text format gtrid bqual x h)
    ∙ none) in
    let g = length-spelled gtrid x.gtrid h.same_gtrid in
    let b = length-spelled bqual x.bqual h.same_bqual in
    (omega (arith, s.0, g), omega (arith, s.1, b))

-- the bytes that the pieces spell are the parts
pub parts_are : (text : List ℕ) (format : ℤ) (gtrid bqual : List ℕ) (x : XidParts)
    → ArePieces text format gtrid bqual x → (g b : List ℕ) → Spells gtrid g → Spells bqual b
    → parts g b (cast_signed w32 (cast_unsigned w32 format)) ≡ x
parts_are text format gtrid bqual x h g b sg sb =
    ap (parts g b) (kept_format text format gtrid bqual x h)
    ∙ ap (λ (t : List ℕ). parts t b x.format) (one_spelling gtrid g x.gtrid sg h.same_gtrid)
    ∙ ap (λ (t : List ℕ). parts x.gtrid t x.format) (one_spelling bqual b x.bqual sb h.same_bqual)

pub sound_parts : (x y : XidParts) → x ≡ y → xid_fault y.format (length y.gtrid) (length y.bqual) ≡ None
    → xid_fault x.format (length x.gtrid) (length x.bqual) ≡ None
sound_parts x y same none = rw same none
