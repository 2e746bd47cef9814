-- A text of flags, name by name.
use Rattle.std.proofs.Common.{◌≡◌, ℕ, ◌+◌, ◌<◌, Bool, true, false, not, cond, eqb, List, [], ◌∷◌, length, map, get_or, drop, Option, Some, None, refl, ap, sym, ◌∙◌, arith, codes}
use Rattle.std.specs.Prelude.{bit_or}
use Rattle.std.specs.List.{All, list_all, slice_split, join_with_byte, fold}
use Rattle.std.specs.Str.{bytes_eq}
use Rattle.std.proofs.lemmas.List.{at_drop_more, at_drop_all}
use Rattle.std.proofs.lemmas.List.Sums.{AllPass-from_list_all}
use Rattle.std.proofs.lemmas.List.Splits.{slice_split_none, slice_split_at, length-slice_split, join_with_byte-slice_split}
use Rattle.std.proofs.lemmas.Slice.Eq.{bytes_eq-Decides}
use Rattle.xa_codes.specs.FlagNames.{flag_named, IsFlagText}

-- the words between plus signs
abbrev pub words : List ℕ → List (List ℕ)
words text = slice_split (λ b. eqb b 43) text

abbrev pub and_then : Option ℕ → (ℕ → Option ℕ) → Option ℕ
and_then None f = None
and_then (Some x) f = f x

-- these bits and the flags that the words name
unfoldable pub read : ℕ → List (List ℕ) → Option ℕ
read bits [] = Some bits
read bits (w ∷ ws) = and_then (flag_named w) (λ flag. read (bit_or bits flag) ws)

-- what is read is named so
abbrev Named : ℕ → List (List ℕ) → ℕ → Type 0
Named bits ws n = (flags : List ℕ) × (map flag_named ws ≡ map (λ f. Some f) flags)
    × (n ≡ fold bit_or bits flags)

taken_first : (bits n : ℕ) (w : List ℕ) (ws : List (List ℕ)) (o : Option ℕ) → flag_named w ≡ o
    → and_then o (λ flag. read (bit_or bits flag) ws) ≡ Some n
    → ((b : ℕ) → read b ws ≡ Some n → Named b ws n) → Named bits (w ∷ ws) n
taken_first bits n w ws None is e more = cc
taken_first bits n w ws (Some f) is e more = let h : Named (bit_or bits f) ws n = more (bit_or bits f) e in
    (f ∷ h.0, cc, h.2)

taken : (bits n : ℕ) (ws : List (List ℕ)) → read bits ws ≡ Some n → Named bits ws n
unfolding read
taken bits n [] e = ([], refl, cc)
taken bits n (w ∷ ws) e = taken_first bits n w ws (flag_named w) refl e (λ b r. taken b n ws r)

-- and what is named so is read
again : (bits : ℕ) (ws : List (List ℕ)) (flags : List ℕ) → map flag_named ws ≡ map (λ f. Some f) flags
    → read bits ws ≡ Some (fold bit_or bits flags)
unfolding read
again bits [] [] e = refl
again bits [] (f ∷ fs) e = cc
again bits (w ∷ ws) [] e = cc
again bits (w ∷ ws) (f ∷ fs) e =
    let first : flag_named w ≡ Some f = cc in
    let others : map flag_named ws ≡ map (λ x. Some x) fs = cc in
    rw first (again (bit_or bits f) ws fs others)

-- no name of a flag has a plus sign
abbrev is_plain : List ℕ → Bool
is_plain w = list_all (λ b. not (eqb b 43)) w

plain_one : (w v : List ℕ) (n f : ℕ) (rest : Option ℕ) (same : Bool) → same ≡ bytes_eq w v
    → is_plain v ≡ true → (rest ≡ Some f → is_plain w ≡ true) → cond same (Some n) rest ≡ Some f
    → is_plain w ≡ true
plain_one w v n f rest true is plain others e = let k : w ≡ v = (bytes_eq-Decides w v).0 (sym is) in rw k
    plain
plain_one w v n f rest false is plain others e = others e

plain_name : (w : List ℕ) (f : ℕ) → flag_named w ≡ Some f → is_plain w ≡ true
plain_name w f e =
    plain_one w (codes "TMNOFLAGS") 0 f _ _ refl refl (
    plain_one w (codes "TMASYNC") 0x8000_0000 f _ _ refl refl (
    plain_one w (codes "TMONEPHASE") 0x4000_0000 f _ _ refl refl (
    plain_one w (codes "TMFAIL") 0x2000_0000 f _ _ refl refl (
    plain_one w (codes "TMNOWAIT") 0x1000_0000 f _ _ refl refl (
    plain_one w (codes "TMRESUME") 0x0800_0000 f _ _ refl refl (
    plain_one w (codes "TMSUCCESS") 0x0400_0000 f _ _ refl refl (
    plain_one w (codes "TMSUSPEND") 0x0200_0000 f _ _ refl refl (
    plain_one w (codes "TMSTARTRSCAN") 0x0100_0000 f _ _ refl refl (
    plain_one w (codes "TMENDRSCAN") 0x0080_0000 f _ _ refl refl (
    plain_one w (codes "TMMULTIPLE") 0x0040_0000 f _ _ refl refl (
    plain_one w (codes "TMJOIN") 0x0020_0000 f _ _ refl refl (
    plain_one w (codes "TMMIGRATE") 0x0010_0000 f _ _ refl refl (
    plain_one w (codes "TMREGISTER") 1 f _ _ refl refl (
    plain_one w (codes "TMNOMIGRATE") 2 f _ _ refl refl (
    plain_one w (codes "TMUSEASYNC") 4 f None _ refl refl (λ e. cc)))))))))))))))) e

not_plus : (b : Bool) → not b ≡ true → b ≡ false
not_plus true e = cc
not_plus false e = refl

no_plus : (w : List ℕ) → is_plain w ≡ true → All (λ b. eqb b 43 ≡ false) w
no_plus w e = λ k d lt. not_plus (eqb (get_or w k d) 43)
    (AllPass-from_list_all (λ b. not (eqb b 43)) w e k d lt)

plain_first : (w : List ℕ) (o : Option ℕ) (flags : List ℕ) (ws : List (List ℕ))
    → map flag_named (w ∷ ws) ≡ map (λ f. Some f) flags → All (λ b. eqb b 43 ≡ false) w
plain_first w o [] ws e = cc
plain_first w o (f ∷ fs) ws e = let first : flag_named w ≡ Some f = cc in no_plus w (plain_name w f first)

more_named : (w : List ℕ) (ws : List (List ℕ)) (flags : List ℕ)
    → map flag_named (w ∷ ws) ≡ map (λ f. Some f) flags
    → (fs : List ℕ) × (map flag_named ws ≡ map (λ f. Some f) fs)
more_named w ws [] e = cc
more_named w ws (f ∷ fs) e = (fs, cc)

-- the words of joined names are the names
parted : (w : List ℕ) (ws : List (List ℕ)) (flags : List ℕ)
    → map flag_named (w ∷ ws) ≡ map (λ f. Some f) flags → words (join_with_byte 43 (w ∷ ws)) ≡ w ∷ ws
parted w [] flags e = slice_split_none (λ b. eqb b 43) w (plain_first w None flags [] e)
parted w (v ∷ ws) flags e =
    let more = more_named w (v ∷ ws) flags e in
    slice_split_at (λ b. eqb b 43) w 43 (join_with_byte 43 (v ∷ ws)) (plain_first w None flags (v ∷ ws) e)
    refl
    ∙ ap (λ (x : List (List ℕ)). w ∷ x) (parted v ws more.0 more.1)

joined : (names : List (List ℕ)) (flags : List ℕ) → 0 < length names
    → map flag_named names ≡ map (λ f. Some f) flags → words (join_with_byte 43 names) ≡ names
joined [] flags some e = absurd (omega arith)
joined (w ∷ ws) flags some e = parted w ws flags e

some_words : (text : List ℕ) → 0 < length (words text)
some_words text = omega (arith, length-slice_split (λ b. eqb b 43) text)

-- what the words of a text give is what the text names
pub found : (text : List ℕ) (bits : ℕ) → read 0 (words text) ≡ Some bits → IsFlagText text bits
found text bits e =
    let h : Named 0 (words text) bits = taken 0 bits (words text) e in
    (words text, h.0, some_words text, sym (join_with_byte-slice_split 43 text), h.1, h.2)

-- and where they give nothing the text names nothing
pub unnamed : (text : List ℕ) (bits : ℕ) → read 0 (words text) ≡ None → IsFlagText text bits → ⊥
unnamed text bits e (names, flags, some, is, named, or) =
    let parts : words text ≡ names = ap words is ∙ joined names flags some named in
    let k : read 0 names ≡ Some (fold bit_or 0 flags) = again 0 names flags named in
    let r : read 0 names ≡ None = ap (read 0) (sym parts) ∙ e in
    cc

-- one more word
pub goes_on : (bits flag : ℕ) (text : List ℕ) (i : ℕ) (total : Option ℕ) (name : List ℕ)
    → (i < length (words text)) × (name ≡ get_or (words text) i name) → flag_named name ≡ Some flag
    → read bits (drop i (words text)) ≡ total → read (bit_or bits flag) (drop (i + 1) (words text)) ≡ total
unfolding read
goes_on bits flag text i total name at named so_far =
    let step = at_drop_more (read bits) (words text) i name at.0 in
    let k : flag_named (get_or (words text) i name) ≡ Some flag = ap flag_named (sym at.1) ∙ named in
    sym (rw k at step) ∙ so_far

pub stops : (bits : ℕ) (text : List ℕ) (i : ℕ) (total : Option ℕ) (name : List ℕ)
    → (i < length (words text)) × (name ≡ get_or (words text) i name) → flag_named name ≡ None
    → read bits (drop i (words text)) ≡ total → total ≡ None
unfolding read
stops bits text i total name at named so_far =
    let step = at_drop_more (read bits) (words text) i name at.0 in
    let k : flag_named (get_or (words text) i name) ≡ None = ap flag_named (sym at.1) ∙ named in
    sym so_far ∙ (rw k at step)

pub ends : (bits : ℕ) (text : List ℕ) (i : ℕ) (total : Option ℕ) → i ≡ length (words text)
    → read bits (drop i (words text)) ≡ total → total ≡ Some bits
unfolding read
ends bits text i total is so_far = sym so_far ∙ at_drop_all (read bits) (words text) i (omega arith)
