-- The texts of flags and of XIDs are words, and spell one thing.
use Rattle.std.proofs.Common.{◌≡◌, ℕ, ◌+◌, ◌<◌, Bool, true, false, not, cond, eqb, List, [], ◌∷◌, ◌++◌, length, map, Option, Some, None, refl, ap, sym, ◌∙◌, subst, arith, codes, All, ℤ, pos, negsuc, suc, ◌/◌, ◌%◌}
use Rattle.std.specs.Prelude.{bit_or, nat_le, ◌&&◌}
use Rattle.std.specs.Fmt.{signed_decimal}
use Rattle.std.specs.List.{AllByRecursion, list_all, join_with_byte, fold}
use Rattle.std.specs.Str.{bytes_eq}
use Rattle.std.proofs.lemmas.Bool.{and_parts}
use Rattle.std.proofs.lemmas.List.Elements.{All-cons, All-nil}
use Rattle.std.proofs.lemmas.List.Splits.{slice_split_none, slice_split_at}
use Rattle.std.proofs.lemmas.Slice.Eq.{bytes_eq-Decides}
use Rattle.hex.specs.Hex.{encode_lower, encode_with, lower_digits}
use Rattle.spellings.specs.Numerals.{number_at}
use Rattle.spellings.proofs.Numerals.{number_takes}
use Rattle.xa_codes.specs.FlagNames.{flag_named, IsFlagText}
use Rattle.xa_codes.proofs.Names.{read, words}
use Rattle.xa_xid.specs.Text.{xid_text}
use Rattle.xa_xid.specs.Xids.{IsXid, XidParts}
use Rattle.xa_xid.proofs.Spelling.{one_text}
use Rattle.proof_judged_texts.proofs.Words.{IsWord, decimal_word, index_seen, seen, word_append, word_is}

-- a byte of the name of a flag: visible, and no plus sign
abbrev is_named : ℕ → Bool
is_named b = (nat_le 33 b && nat_le b 126) && not (eqb b 43)

abbrev IsPlain : List ℕ → Type 0
IsPlain w = list_all is_named w ≡ true

plain_one : (w v : List ℕ) (n f : ℕ) (rest : Option ℕ) (same : Bool) → same ≡ bytes_eq w v
    → IsPlain v → (rest ≡ Some f → IsPlain w) → cond same (Some n) rest ≡ Some f → IsPlain w
plain_one w v n f rest true is plain others e = let k : w ≡ v = (bytes_eq-Decides w v).0 (sym is) in rw k
    plain
plain_one w v n f rest false is plain others e = others e

plain_name : (w : List ℕ) (f : ℕ) → flag_named w ≡ Some f → IsPlain w
plain_name w f e =
    plain_one w (codes "TMNOFLAGS") 0 f _ _ refl refl (
    plain_one w (codes "TMASYNC") 0x8000_0000 f _ _ refl refl (
    plain_one w (codes "TMONEPHASE") 0x4000_0000 f _ _ refl refl (
    plain_one w (codes "TMFAIL") 0x2000_0000 f _ _ refl refl (
    plain_one w (codes "TMNOWAIT") 0x1000_0000 f _ _ refl refl (
    plain_one w (codes "TMRESUME") 0x0800_0000 f _ _ refl refl (
    plain_one w (codes "TMSUCCESS") 0x0400_0000 f _ _ refl refl (
    plain_one w (codes "TMSUSPEND") 0x0200_0000 f _ _ refl refl (
    plain_one w (codes "TMSTARTRSCAN") 0x0100_0000 f _ _ refl refl (
    plain_one w (codes "TMENDRSCAN") 0x0080_0000 f _ _ refl refl (
    plain_one w (codes "TMMULTIPLE") 0x0040_0000 f _ _ refl refl (
    plain_one w (codes "TMJOIN") 0x0020_0000 f _ _ refl refl (
    plain_one w (codes "TMMIGRATE") 0x0010_0000 f _ _ refl refl (
    plain_one w (codes "TMREGISTER") 1 f _ _ refl refl (
    plain_one w (codes "TMNOMIGRATE") 2 f _ _ refl refl (
    plain_one w (codes "TMUSEASYNC") 4 f None _ refl refl (λ e. cc)))))))))))))))) e

abbrev AreNamed : List (List ℕ) → List ℕ → Type 0
AreNamed names flags = map flag_named names ≡ map (λ f. Some f) flags

named_parts : (w : List ℕ) (ws : List (List ℕ)) (flags : List ℕ) → AreNamed (w ∷ ws) flags
    → (f : ℕ) × (fs : List ℕ) × (flags ≡ f ∷ fs) × (flag_named w ≡ Some f) × AreNamed ws fs
named_parts w ws [] e = cc
named_parts w ws (f ∷ fs) e = (f, fs, refl, cc, cc)

each_plain : (names : List (List ℕ)) (flags : List ℕ) → AreNamed names flags → AllByRecursion IsPlain names
each_plain [] flags e = tt
each_plain (w ∷ ws) flags e =
    let (f, fs, is, here, more) = named_parts w ws flags e in (plain_name w f here, each_plain ws fs more)

not_plus : (b : Bool) → not b ≡ true → b ≡ false
not_plus true e = cc
not_plus false e = refl

plain_parts : (c : ℕ) (cs : List ℕ) → IsPlain (c ∷ cs)
    → ((nat_le 33 c && nat_le c 126) ≡ true) × (eqb c 43 ≡ false) × IsPlain cs
plain_parts c cs h =
    let (here, more) = and_parts (is_named c) (list_all is_named cs) h in
    let (low, plus) = and_parts (nat_le 33 c && nat_le c 126) (not (eqb c 43)) here in
    (low, not_plus (eqb c 43) plus, more)

no_plus : (w : List ℕ) → IsPlain w → All (λ b. eqb b 43 ≡ false) w
no_plus [] h = All-nil (λ b. eqb b 43 ≡ false)
no_plus (c ∷ cs) h =
    let (low, plus, more) = plain_parts c cs h in All-cons (λ b. eqb b 43 ≡ false) c cs plus (no_plus cs more)

plain_visible : (w : List ℕ) → IsPlain w → list_all (λ c. nat_le 33 c && nat_le c 126) w ≡ true
plain_visible [] h = refl
plain_visible (c ∷ cs) h = let (low, plus, more) = plain_parts c cs h in rw (low, plain_visible cs more) refl

plain_word : (w : List ℕ) → IsPlain w → IsWord w
plain_word w h = word_is w (plain_visible w h)

join_word : (names : List (List ℕ)) → AllByRecursion IsPlain names → IsWord (join_with_byte 43 names)
join_word [] h = tt
join_word (w ∷ []) h = plain_word w h.0
join_word (w ∷ v ∷ ws) h = word_append w (43 ∷ join_with_byte 43 (v ∷ ws)) (plain_word w h.0)
    (seen 43 (omega arith) (omega arith), join_word (v ∷ ws) h.1)

parted : (w : List ℕ) (ws : List (List ℕ)) → AllByRecursion IsPlain (w ∷ ws)
    → words (join_with_byte 43 (w ∷ ws)) ≡ w ∷ ws
parted w [] h = slice_split_none (λ b. eqb b 43) w (no_plus w h.0)
parted w (v ∷ ws) h =
    slice_split_at (λ b. eqb b 43) w 43 (join_with_byte 43 (v ∷ ws)) (no_plus w h.0) refl
    ∙ ap (λ (x : List (List ℕ)). w ∷ x) (parted v ws h.1)

again : (bits : ℕ) (ws : List (List ℕ)) (flags : List ℕ) → AreNamed ws flags
    → read bits ws ≡ Some (fold bit_or bits flags)
unfolding read
again bits [] [] e = refl
again bits [] (f ∷ fs) e = cc
again bits (w ∷ ws) [] e = cc
again bits (w ∷ ws) (f ∷ fs) e =
    let first : flag_named w ≡ Some f = cc in
    let others : map flag_named ws ≡ map (λ x. Some x) fs = cc in
    rw first (again (bit_or bits f) ws fs others)

joined : (names : List (List ℕ)) → 0 < length names → AllByRecursion IsPlain names
    → words (join_with_byte 43 names) ≡ names
joined [] some h = absurd (omega arith)
joined (w ∷ ws) some h = parted w ws h

-- what a text of flags names is read from its words
flags_read : (text : List ℕ) (bits : ℕ) → IsFlagText text bits → read 0 (words text) ≡ Some bits
flags_read text bits (names, flags, some, is, named, or) =
    let parts : words text ≡ names = ap words is ∙ joined names some (each_plain names flags named) in
    ap (read 0) parts ∙ again 0 names flags named ∙ ap (λ (n : ℕ). Some n) (sym or)

-- a text names one number of flags, and is a word
pub one_flags : (text : List ℕ) (f g : ℕ) → IsFlagText text f → IsFlagText text g → f ≡ g
one_flags text f g h k = let e = sym (flags_read text f h) ∙ flags_read text g k in cc

pub flags_word : (text : List ℕ) (bits : ℕ) → IsFlagText text bits → IsWord text
flags_word text bits (names, flags, some, is, named, or) =
    subst (λ (t : List ℕ). IsWord t) (sym is) (join_word names (each_plain names flags named))

-- XIDs

hex_word : (bytes : List ℕ) → IsWord (encode_lower bytes)
unfolding encode_with
hex_word [] = tt
hex_word (b ∷ bytes) = (
  index_seen lower_digits (b / 16) (word_is lower_digits refl),
  (index_seen lower_digits (b % 16) (word_is lower_digits refl), hex_word bytes),
)

signed_word : (z : ℤ) → IsWord (signed_decimal z)
signed_word (pos n) = decimal_word n
signed_word (negsuc n) = (seen 45 (omega arith) (omega arith), decimal_word (suc n))

pub xid_word : (x : XidParts) → IsWord (xid_text x)
xid_word x =
    let colon : IsWord (codes ":") = word_is (codes ":") refl in
    let one = word_append (signed_decimal x.format) (codes ":") (signed_word x.format) colon in
    let two = word_append (signed_decimal x.format ++ codes ":") (encode_lower x.gtrid) one (hex_word x.gtrid)
    in
    let three = word_append (signed_decimal x.format ++ codes ":" ++ encode_lower x.gtrid)
    (codes ":") two colon in
    word_append (signed_decimal x.format ++ codes ":" ++ encode_lower x.gtrid ++ codes ":")
    (encode_lower x.bqual) three
    (hex_word x.bqual)

pub one_name : (w : List ℕ) (x y : XidParts) → IsXid x → w ≡ xid_text x → IsXid y → w ≡ xid_text y → x ≡ y
one_name w x y sx ex sy ey = one_text w x y sx.fits sy.fits ex ey

-- numbers

pub number_word : (w : List ℕ) (n : ℕ) → number_at w ≡ Some n → IsWord w
number_word w n e =
    let (is, small) = number_takes w n e in subst (λ (t : List ℕ). IsWord t) (sym is) (decimal_word n)

pub one_number : (w : List ℕ) (m n : ℕ) → number_at w ≡ Some m → number_at w ≡ Some n → m ≡ n
one_number w m n e f = cc
