-- Parts in an array, and the parts of an XID.
use Rattle.std.proofs.Common.{◌≡◌, ◌≢◌, ◌∙◌, ℕ, ◌*◌, ◌-◌, ◌≤◌, Bool, true, false, List, ◌++◌, length, take, drop, nat_eq, refl, ap, sym, arith, replicate, length-append}
use Rattle.std.proofs.lemmas.List.{drop-replicate, length-replicate, take-take, take_at}
use Rattle.std.specs.Cmp.Lexicographic.{pointwise, bytes_decides}
use Rattle.std.specs.Int.{div_ceil}
use Rattle.xa_xid.specs.Part.{IsPart, filled}

-- bytes that were copied to the front of 64 zeros
pub part_of : (bytes copied array : List ℕ) → length bytes ≤ 64 → copied ≡ bytes → array ≡ replicate 64 0
    → IsPart (length bytes) (copied ++ drop (length bytes) array)
part_of bytes copied array fits is zeros =
    let back : copied ++ drop (length bytes) array ≡ filled bytes = rw
    (is, zeros, drop-replicate {X = ℕ} (length bytes) 64 0) refl in
    let front : take (length bytes) (filled bytes) ≡ bytes = take_at bytes
    (replicate (64 - length bytes) 0) (length bytes) refl in
    rw back (record {
      fits = fits;
      size = omega (
        arith,
        length-append bytes (replicate (64 - length bytes) 0),
        length-replicate {A = ℕ}
            (64 - length bytes) 0,
      );
      zeros = ap filled (sym front);
    })

-- as many eights as a part has cover it
covered : (len : ℕ) → len ≤ div_ceil len 8 * 8
covered len = omega arith

-- two parts of one length are equal where the eights are that cover them
pub told_by_eights : (len other count : ℕ) (a b p q : List ℕ) (equal : Bool) → IsPart len a → IsPart other b
    → len ≡ other → take len a ≡ p → take other b ≡ q → count ≡ div_ceil len 8
    → (equal ≡ true → take (count * 8) a ≡ take (count * 8) b) → (equal ≡ false → a ≢ b)
    → equal ≡ pointwise nat_eq p q
told_by_eights len other count a b p q true f g same is_p is_q is_count as_so as_not =
    let m : len ≤ count * 8 = rw is_count (covered len) in
    let bytes : take len a ≡ take len b = sym (take-take len (count * 8) a m)
    ∙ ap (take len) (as_so refl) ∙ take-take len (count * 8) b m in
    sym ((bytes_decides p q).1 (sym is_p ∙ bytes ∙ ap (λ n. take n b) same ∙ is_q))
told_by_eights len other count a b p q false f g same is_p is_q is_count as_so as_not =
    differs (pointwise nat_eq p q) refl
  where
    differs : (r : Bool) → pointwise nat_eq p q ≡ r → false ≡ r
    differs false is = refl
    differs true is = absurd (as_not refl (f.zeros ∙ ap filled (is_p ∙ (bytes_decides p q).0 is ∙ sym is_q)
        ∙ sym g.zeros))
