-- XIDs in bytes: what is read is spelled so, and what is spelled so is read.
use Rattle.std.proofs.Common.{◌≡◌, ℕ, zero, suc, ◌+◌, ◌-◌, ◌≤◌, ◌<◌, ◌^◌, ℤ, false, cond, ltb, List, [], ◌∷◌, ◌++◌, length, get_or, take, drop, Option, Some, None, refl, ap, sym, ◌∙◌, arith, append_assoc, length-append, length-take, length-drop, take-append-drop}
use Rattle.std.specs.Int.{w32, to_be_bytes, from_be_bytes, cast_signed, cast_unsigned}
use Rattle.std.specs.Int.RustNames.{FitsSigned}
use Rattle.std.specs.Option.{option_or}
use Rattle.std.proofs.lemmas.Bool.{le-ltb}
use Rattle.std.proofs.lemmas.Int.{of_z-to_z, to_z-of_z}
use Rattle.std.proofs.lemmas.List.{take_all, take_at, drop_at}
use Rattle.std.proofs.lemmas.Nat.{be_bytes_4, from_be_bytes-to_be_bytes_4}
use Rattle.std.proofs.Math.Facts.{Fits-of_z}
use Rattle.xa_xid.specs.declared.error.XidError.{XidError}
use Rattle.xa_xid.specs.declared.error.XidError.TheVariants.{Truncated}
use Rattle.xa_xid.specs.Xids.{XidParts, IsXid, xid_fault}
use Rattle.xa_xid.specs.Bytes.{xid_bytes, format_of, front_fault, front_parts}

-- ---- the format

four_below : (a b c d : ℕ) → a < 256 → b < 256 → c < 256 → d < 256
    → from_be_bytes w32 (a ∷ b ∷ c ∷ d ∷ []) < 2 ^ 32
four_below a b c d ha hb hc hd = omega arith

format_again : (a b c d : ℕ) → ((i : ℕ) → get_or (a ∷ b ∷ c ∷ d ∷ []) i 0 < 256)
    → to_be_bytes w32 (cast_unsigned w32 (format_of (a ∷ b ∷ c ∷ d ∷ []))) ≡ a ∷ b ∷ c ∷ d ∷ []
format_again a b c d fits =
    ap (to_be_bytes w32) (of_z-to_z w32 (from_be_bytes w32 (a ∷ b ∷ c ∷ d ∷ []))
    (four_below a b c d (fits 0) (fits 1) (fits 2) (fits 3)))
    ∙ be_bytes_4 (a ∷ b ∷ c ∷ d ∷ []) _ refl fits refl

-- a format that was handed on by its bits
format_kept : (a b c d : ℕ) → a < 256 → b < 256 → c < 256 → d < 256 → (z : ℤ)
    → z ≡ format_of (a ∷ b ∷ c ∷ d ∷ [])
    → cast_signed w32 (cast_unsigned w32 z) ≡ format_of (a ∷ b ∷ c ∷ d ∷ [])
format_kept a b c d ha hb hc hd z e =
    ap (λ (y : ℤ). cast_signed w32 (cast_unsigned w32 y)) e
    ∙ ap (cast_signed w32) (of_z-to_z w32 (from_be_bytes w32 (a ∷ b ∷ c ∷ d ∷ []))
    (four_below a b c d ha hb hc hd))

format_back : (z : ℤ) → FitsSigned w32 z → format_of (to_be_bytes w32 (cast_unsigned w32 z)) ≡ z
format_back z fits = ap (cast_signed w32)
    (from_be_bytes-to_be_bytes_4 (cast_unsigned w32 z) (Fits-of_z fits).fits) ∙ to_z-of_z w32 z fits

-- ---- from XIDs to bytes

-- the faults of a header and of the bytes after it
abbrev rest_fault : ℕ → ℕ → List ℕ → ℤ → Option XidError
rest_fault gtrid bqual rest format = option_or (xid_fault format gtrid bqual)
    (cond (ltb (length rest) (gtrid + bqual)) (Some Truncated) None)

enough : (gtrid bqual rest : List ℕ)
    → ltb (length (gtrid ++ bqual ++ rest)) (length gtrid + length bqual) ≡ false
enough gtrid bqual rest = le-ltb _ _ (omega (
  arith,
  length-append (gtrid
      ++ bqual) rest,
  length-append gtrid bqual,
))

no_fault : (o : Option XidError) (b : _) → o ≡ None → b ≡ false
    → option_or o (cond b (Some Truncated) None) ≡ None
no_fault o b e f = rw (e, f) refl

first_part : (gtrid bqual rest : List ℕ) → take (length gtrid) (gtrid ++ bqual ++ rest) ≡ gtrid
first_part gtrid bqual rest = rw append_assoc (take_at gtrid (bqual ++ rest) (length gtrid) refl)

second_part : (gtrid bqual rest : List ℕ)
    → take (length bqual) (drop (length gtrid) (gtrid ++ bqual ++ rest)) ≡ bqual
second_part gtrid bqual rest = rw (
  append_assoc,
  drop_at gtrid (bqual
      ++ rest) (length gtrid) refl,
) (take_at bqual rest (length bqual) refl)

abbrev pub parts : List ℕ → List ℕ → ℤ → XidParts
parts gtrid bqual format = record { format = format; gtrid = gtrid; bqual = bqual }

-- bytes that an XID begins have no fault, and are read as that XID
pub begins : (x : XidParts) (rest bytes : List ℕ) → IsXid x → bytes ≡ xid_bytes x ++ rest
    → (front_fault bytes ≡ None) × (front_parts bytes ≡ x)
begins x rest bytes is e =
    let format : format_of (to_be_bytes w32 (cast_unsigned w32 x.format)) ≡ x.format = format_back x.format
    is.fits.format in (
      ap front_fault e
          ∙ ap (rest_fault (length x.gtrid) (length x.bqual) (x.gtrid ++ x.bqual ++ rest)) format
          ∙ no_fault _ _ is.sound (enough x.gtrid x.bqual rest),
      ap front_parts e
          ∙ ap (parts (take (length x.gtrid) (x.gtrid ++ x.bqual
          ++ rest)) (take (length x.bqual) (drop (length x.gtrid) (x.gtrid ++ x.bqual ++ rest)))) format
          ∙ ap (λ (g : List ℕ). parts g (take (length x.bqual) (drop (length x.gtrid) (x.gtrid ++ x.bqual
          ++ rest))) x.format) (first_part x.gtrid x.bqual rest)
          ∙ ap (λ (q : List ℕ). parts x.gtrid q x.format) (second_part x.gtrid x.bqual rest),
    )

-- two XIDs that begin the same bytes are one
pub one_front : (x y : XidParts) (rest more : List ℕ) → IsXid x → IsXid y
    → xid_bytes x ++ rest ≡ xid_bytes y ++ more → x ≡ y
one_front x y rest more is_x is_y e = sym (begins x rest (xid_bytes x ++ rest) is_x refl).1
    ∙ (begins y more (xid_bytes x ++ rest) is_y e).1

-- ---- from bytes to XIDs

pieces : (gtrid bqual : ℕ) (rest : List ℕ)
    → take gtrid rest ++ take bqual (drop gtrid rest) ++ drop bqual (drop gtrid rest) ≡ rest
pieces gtrid bqual rest =
    append_assoc (take gtrid rest) (take bqual (drop gtrid rest)) (drop bqual (drop gtrid rest))
    ∙ ap (λ (t : List ℕ). take gtrid rest ++ t) (take-append-drop bqual (drop gtrid rest))
    ∙ take-append-drop gtrid rest

four_fit : (a b c d : ℕ) → a < 256 → b < 256 → c < 256 → d < 256 → (i : ℕ)
    → get_or (a ∷ b ∷ c ∷ d ∷ []) i 0 < 256
four_fit a b c d ha hb hc hd zero = ha
four_fit a b c d ha hb hc hd (suc zero) = hb
four_fit a b c d ha hb hc hd (suc (suc zero)) = hc
four_fit a b c d ha hb hc hd (suc (suc (suc zero))) = hd
four_fit a b c d ha hb hc hd (suc (suc (suc (suc i)))) = omega arith

-- six bytes and more, as the XID of their parts and what is left
whole : (a b c d g q : ℕ) (rest : List ℕ) → ((i : ℕ) → get_or (a ∷ b ∷ c ∷ d ∷ []) i 0 < 256)
    → g + q ≤ length rest
    → a ∷ b ∷ c ∷ d ∷ g ∷ q ∷ rest ≡ xid_bytes
    (parts (take g rest) (take q (drop g rest)) (format_of (a ∷ b ∷ c ∷ d ∷ [])))
    ++ drop q (drop g rest)
whole a b c d g q rest fits le =
    let gtrid : length (take g rest) ≡ g = omega (arith, length-take g rest) in
    let bqual : length (take q (drop g rest)) ≡ q = omega
    (arith, length-take q (drop g rest), length-drop g rest) in
    ap (λ (t : List ℕ). a ∷ b ∷ c ∷ d ∷ g ∷ q ∷ t) (sym (pieces g q rest))
    ∙ ap (λ (head : List ℕ). head ++ (g ∷ q ∷ []) ++ take g rest ++ take q (drop g rest)
    ++ drop q (drop g rest)) (sym (format_again a b c d fits))
    ∙ ap (λ (n : ℕ). to_be_bytes w32 (cast_unsigned w32 (format_of (a ∷ b ∷ c ∷ d ∷ []))) ++ (n ∷ q ∷ [])
    ++ take g rest ++ take q (drop g rest) ++ drop q (drop g rest)) (sym gtrid)
    ∙ ap (λ (n : ℕ). to_be_bytes w32 (cast_unsigned w32 (format_of (a ∷ b ∷ c ∷ d ∷ [])))
    ++ (length (take g rest) ∷ n ∷ []) ++ take g rest ++ take q (drop g rest)
    ++ drop q (drop g rest)) (sym bqual)

pub length-xid_bytes : (x : XidParts) → length (xid_bytes x) ≡ 6 + length x.gtrid + length x.bqual
length-xid_bytes x = omega (arith, length-append x.gtrid x.bqual)

abbrev Front : List ℕ → ℕ → XidParts → Type 0
Front bytes size x = (size ≡ length (xid_bytes x)) × (bytes ≡ xid_bytes x ++ drop size bytes)

front_of : (bytes rest : List ℕ) (x : XidParts) → bytes ≡ xid_bytes x ++ rest
    → Front bytes (6 + length x.gtrid + length x.bqual) x
front_of bytes rest x e =
    let n : 6 + length x.gtrid + length x.bqual ≡ length (xid_bytes x) = sym (length-xid_bytes x) in
    let left : drop (6 + length x.gtrid + length x.bqual) bytes ≡ rest = ap
    (drop (6 + length x.gtrid + length x.bqual)) e
    ∙ drop_at (xid_bytes x) rest (6 + length x.gtrid + length x.bqual) (sym n) in
    (n, e ∙ ap (λ (t : List ℕ). xid_bytes x ++ t) (sym left))

-- the parts that were cut from bytes begin them
pub reads : (bytes rest gtrid more bqual : List ℕ) (format : ℤ) (x : XidParts) → 6 ≤ length bytes
    → ((i : ℕ) → get_or bytes i 0 < 256) → rest ≡ take (length bytes - 6) (drop 6 bytes)
    → get_or bytes 4 0 + get_or bytes 5 0 ≤ length rest → gtrid ≡ take (get_or bytes 4 0) rest
    → more ≡ drop (get_or bytes 4 0) rest → bqual ≡ take (get_or bytes 5 0) more
    → format ≡ format_of (get_or bytes 0 0 ∷ get_or bytes 1 0 ∷ get_or bytes 2 0 ∷ get_or bytes 3 0 ∷ [])
    → x ≡ parts gtrid bqual (cast_signed w32 (cast_unsigned w32 format))
    → Front bytes (6 + length gtrid + length bqual) x
reads (a ∷ b ∷ c ∷ d ∷ g ∷ q ∷ bytes) rest gtrid more bqual format x six fits r long e1 e2 e3 e4 e5 =
    let all : rest ≡ bytes = r ∙ take_all (length (a ∷ b ∷ c ∷ d ∷ g ∷ q ∷ bytes) - 6) bytes (omega arith) in
    let le : g + q ≤ length bytes = rw all at long in
    let w = front_of (a ∷ b ∷ c ∷ d ∷ g ∷ q ∷ bytes) (drop q (drop g bytes))
    (parts (take g bytes) (take q (drop g bytes)) (format_of (a ∷ b ∷ c ∷ d ∷ [])))
    (whole a b c d g q bytes (four_fit a b c d (fits 0) (fits 1) (fits 2) (fits 3)) le) in
    let f : cast_signed w32 (cast_unsigned w32 format) ≡ format_of (a ∷ b ∷ c ∷ d ∷ []) = format_kept a b c
    d (fits 0) (fits 1) (fits 2) (fits 3) format e4 in
    let y : x ≡ parts (take g bytes) (take q (drop g bytes)) (format_of (a ∷ b ∷ c ∷ d ∷ [])) = rw
    (← all, ← e1, ← e2, ← e3, ← f) e5 in
    rw (y, e1, e3, e2, all) w
reads _ rest gtrid more bqual format x six fits r long e1 e2 e3 e4 e5 = absurd (omega arith)
