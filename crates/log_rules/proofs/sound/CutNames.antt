-- The name at the front of a payload was so written.
use Rattle.std.proofs.Common.{◌≡◌, ◌≤◌, ◌<◌, ◌+◌, ◌-◌, ◌^◌, ℕ, Bool, true, false, cond, nat_lt, List, [], ◌∷◌, ◌++◌, length, take, drop, Option, Some, None, option_map, refl, sym, ap, subst, ◌∙◌, arith}
use Rattle.std.specs.Prelude.{is_some}
use Rattle.std.specs.Int.{w32, cast_signed, cast_unsigned, from_be_bytes}
use Rattle.std.specs.Option.{option_or}
use Rattle.std.proofs.lemmas.Int.{of_z-to_z}
use Rattle.std.proofs.lemmas.Bool.Decides.{nat_tests}
use Rattle.std.proofs.lemmas.List.{take_all}
use Rattle.xa_xid.specs.declared.error.XidError.{XidError}
use Rattle.xa_xid.specs.declared.error.XidError.TheVariants.{Truncated}
use Rattle.xa_xid.specs.Bytes.{front_fault, front_parts, format_of, xid_bytes}
use Rattle.xa_xid.specs.Xids.{XidParts, xid_fault}
use Rattle.xa_xid.proofs.Reading.{parts, reads}
use Rattle.log_text.specs.Parts.{Front, Name, name_at, name_in, xid_at}
use Rattle.log_text.specs.Payloads.{name_text}
use Rattle.log_text.proofs.NameReading.{name_again}
use Rattle.log_rules.specs.sound.Written.{AreBytes}
use Rattle.log_rules.proofs.sound.Cuts.{IsCut, bytes_behind, none_some, some_is}

-- The XID.

pub four_below : (a b c d : ℕ) → a < 256 → b < 256 → c < 256 → d < 256
    → from_be_bytes w32 (a ∷ b ∷ c ∷ d ∷ []) < 2 ^ 32
four_below a b c d ha hb hc hd = omega arith

-- a format is what its bits say
format_kept : (a b c d : ℕ) → a < 256 → b < 256 → c < 256 → d < 256
    → cast_signed w32 (cast_unsigned w32 (format_of (a ∷ b ∷ c ∷ d ∷ []))) ≡ format_of (a ∷ b ∷ c ∷ d ∷ [])
format_kept a b c d ha hb hc hd =
    ap (cast_signed w32) (of_z-to_z w32 (from_be_bytes w32 (a ∷ b ∷ c ∷ d ∷ []))
    (four_below a b c d ha hb hc hd))

pub no_fault : (o : Option XidError) (b : Bool) → is_some (option_or o (cond b (Some Truncated) None)) ≡ false
    → b ≡ false
no_fault None false h = refl
no_fault None true h = h
no_fault (Some e) b h = absurd (cc)

pub enough : (n m : ℕ) → nat_lt n m ≡ false → m ≤ n
enough n m h = grind (arith, nat_tests)

front_spelled : (xs : List ℕ) → AreBytes xs → is_some (front_fault xs) ≡ false
    → xs ≡ xid_bytes (front_parts xs) ++ drop (length (xid_bytes (front_parts xs))) xs
front_spelled (a ∷ b ∷ c ∷ d ∷ g ∷ q ∷ rest) h sound =
    let format = format_of (a ∷ b ∷ c ∷ d ∷ []) in
    let long : g + q ≤ length rest = enough (length rest) (g + q)
    (no_fault (xid_fault format g q) (nat_lt (length rest) (g + q)) sound) in
    let whole : rest ≡ take (length (a ∷ b ∷ c ∷ d ∷ g ∷ q ∷ rest) - 6) rest =
    sym (take_all (length (a ∷ b ∷ c ∷ d ∷ g ∷ q ∷ rest) - 6) rest (omega arith)) in
    let kept : parts (take g rest) (take q (drop g rest)) format
    ≡ parts (take g rest) (take q (drop g rest)) (cast_signed w32 (cast_unsigned w32 format)) =
    ap (parts (take g rest) (take q (drop g rest))) (sym (format_kept a b c d (h 0) (h 1) (h 2) (h 3))) in
    let read = reads (a ∷ b ∷ c ∷ d ∷ g ∷ q ∷ rest) rest (take g rest) (drop g rest)
    (take q (drop g rest)) format
    (parts (take g rest) (take q (drop g rest)) format) (omega arith) h whole long refl refl refl refl kept in
    read.1 ∙ ap (λ n. xid_bytes (front_parts (a ∷ b ∷ c ∷ d ∷ g ∷ q ∷ rest))
    ++ drop n (a ∷ b ∷ c ∷ d ∷ g ∷ q ∷ rest)) read.0
front_spelled [] h sound = absurd (cc)
front_spelled (a ∷ []) h sound = absurd (cc)
front_spelled (a ∷ b ∷ []) h sound = absurd (cc)
front_spelled (a ∷ b ∷ c ∷ []) h sound = absurd (cc)
front_spelled (a ∷ b ∷ c ∷ d ∷ []) h sound = absurd (cc)
front_spelled (a ∷ b ∷ c ∷ d ∷ g ∷ []) h sound = absurd (cc)

pub xid_cut : (xs : List ℕ) (p : XidParts × List ℕ) → AreBytes xs → xid_at xs ≡ Some p → IsCut xid_bytes xs p
unfolding xid_at
xid_cut xs p h e = by_fault (is_some (front_fault xs)) refl e
  where
    by_fault : (b : Bool) → is_some (front_fault xs) ≡ b
        → cond b None (Some (front_parts xs, drop (length (xid_bytes (front_parts xs))) xs)) ≡ Some p
        → IsCut xid_bytes xs p
    by_fault true is f = absurd (none_some p f)
    by_fault false is f =
        subst (λ (q : XidParts × List ℕ). IsCut xid_bytes xs q) (some_is _ p f)
        (record {
          written = front_spelled xs h is;
          bytes = bytes_behind (length (xid_bytes (front_parts xs))) xs h;
        })

-- The name.

abbrev pub text_of_name : Name → List ℕ
text_of_name n = name_text n.0 n.1

pub name_cut : (xs : List ℕ) (p : Name × List ℕ) → AreBytes xs → name_at xs ≡ Some p → IsCut text_of_name xs p
unfolding name_at
name_cut xs p h e = by_front (xid_at xs) refl e
  where
    by_front : (o : Front XidParts) → xid_at xs ≡ o → option_map (λ q. (name_in q.0, q.1)) o ≡ Some p
        → IsCut text_of_name xs p
    by_front None is f = absurd (none_some p f)
    by_front (Some q) is f =
        let cut = xid_cut xs q h is in
        subst (λ (r : Name × List ℕ). IsCut text_of_name xs r) (some_is _ p f) (record {
          written = cut.written ∙ ap (λ x. xid_bytes x ++ q.1) (sym (name_again q.0));
          bytes = cut.bytes;
        })
