-- What a crash leaves of a file keeps what was on the disk.
use Rattle.std.proofs.Common.{rules, ◌≡◌, ◌≤◌, ◌<◌, ◌+◌, ◌-◌, ◌^◌, ℕ, Bool, true, false, if◌then◌else◌, List, [], ◌∷◌, ◌++◌, length, take, drop, Some, None, ◌⊎◌, inl, inr, refl, sym, ap, subst, ◌∙◌, arith, append_assoc, append-nil, length-append}
use Rattle.std.specs.List.{concat}
use Rattle.std.specs.Str.{bytes_eq}
use Rattle.std.proofs.lemmas.List.{length-take, take_all}
use Rattle.std.proofs.lemmas.Bool.{cases_lt}
use Rattle.file_blocks.specs.Blocks.{behind, behind_all, block_text, blocks_text, is_damaged, number_in}
use Rattle.file_blocks.specs.Files.{Holds, IsBroken, IsDamaged, IsFile, file_head, file_number, file_text}
use Rattle.file_blocks.specs.Laws.{AreTold, FilesKeepWhatWasForced}
use Rattle.file_blocks.proofs.Reading.{block_size, front_of, not_short, same_is_true}
use Rattle.file_blocks.proofs.OneWay.{file_head_size, goes_behind, head_number, one_way}
use Rattle.file_blocks.proofs.Tails.{past, tails}
use Rattle.file_blocks.proofs.Begun.{concat_more}

none_told : AreTold []
none_told = search rules

-- blocks of few bytes are told
told_of : (n place : ℕ) (ps : List (List ℕ)) (rest : List ℕ)
    → length (blocks_text n place ps ++ rest) < 2 ^ 64
    → AreTold ps
told_of n place [] rest h = none_told
told_of n place (p ∷ ps) rest h =
    let more = blocks_text n (behind place p) ps in
    let size : length (blocks_text n place (p ∷ ps) ++ rest) ≡ 72 + length p + length (more ++ rest) = omega (
      arith,
      length-append (block_text n place p ++ more) rest,
      length-append (block_text n place p) more,
      length-append more rest,
      block_size n place p,
    ) in
    (omega (arith, size, h), told_of n (behind place p) ps rest (omega (arith, size, h)))

told_in : (n : ℕ) (ps : List (List ℕ)) (tail bytes : List ℕ) → length bytes < 2 ^ 64 → IsFile n ps tail bytes
    → AreTold ps
told_in n ps tail bytes h is =
    told_of n 48 ps tail (omega (
      arith,
      h,
      ap length is.text,
      length-append (file_head n) (blocks_text n 48 ps ++ tail),
    ))

-- the number of a file with a head
number_of : (n : ℕ) (rest : List ℕ) → n < 2 ^ 64 → file_number (file_head n ++ rest) ≡ Some n
number_of n rest h =
    let bytes = file_head n ++ rest in
    let tells : number_in (drop 8 bytes) ≡ n = head_number n rest h in
    let front : take 48 bytes ≡ file_head n = front_of 48 (file_head n) rest (file_head_size n) in
    ap (λ (b : Bool). if b then None
    else (if bytes_eq (file_head (number_in (drop 8 bytes))) (take 48 bytes)
    then Some (number_in (drop 8 bytes)) else None))
    (not_short (length bytes) 48 (omega (arith, length-append (file_head n) rest, file_head_size n)))
    ∙ (λ i. if bytes_eq (file_head (tells i)) (front i) then Some (tells i) else None)
    ∙ ap (λ (b : Bool). if b then Some n else None) (same_is_true (file_head n))

-- bytes are read so: the file of these blocks with a tail that is no damage
record Reads (n : ℕ) (ps : List (List ℕ)) (bytes : List ℕ) : Type 0 where
  tail : List ℕ
  is : IsFile n ps tail bytes
  torn : is_damaged n (behind_all 48 ps) tail ≡ false

reads_so : (n m : ℕ) (ps : List (List ℕ)) (bytes held : List ℕ) → n < 2 ^ 64 → m < 2 ^ 64
    → length bytes < 2 ^ 64
    → Reads n ps bytes → Holds bytes m held → held ≡ concat ps
reads_so n m ps bytes held h k few r there =
    let same = one_way n m ps (there.first ∷ there.others) r.tail there.tail bytes h k
    (told_in n ps r.tail bytes few r.is)
    (told_in m (there.first ∷ there.others) there.tail bytes few there.is) r.is there.is in
    there.held_are ∙ ap concat (sym same.1)

true_or_false : (b : Bool) → b ≡ true → b ≡ false → ⊥
true_or_false true e f = absurd (cc)
true_or_false false e f = absurd (cc)

no_cons : (p : List ℕ) (ps qs : List (List ℕ)) → (p ∷ ps) ≡ qs → qs ≡ [] → ⊥
no_cons p ps qs e none = absurd (cc)

never_damaged : (n : ℕ) (first : List ℕ) (others : List (List ℕ)) (bytes : List ℕ) → n < 2 ^ 64
    → length bytes < 2 ^ 64 → Reads n (first ∷ others) bytes → IsDamaged bytes (file_number bytes) → ⊥
never_damaged n first others bytes h few r damaged =
    by_case (subst (IsDamaged bytes) (ap file_number r.is.text
    ∙ number_of n (blocks_text n 48 (first ∷ others) ++ r.tail) h) damaged)
  where
    by_case : ((tail : List ℕ) × IsFile n [] tail bytes) ⊎ IsBroken bytes n → ⊥
    by_case (inl none) =
        let same = one_way n n (first ∷ others) [] r.tail none.0 bytes h h
        (told_in n (first ∷ others) r.tail bytes few r.is) none_told r.is none.1 in
        no_cons first others [] same.1 refl
    by_case (inr broken) =
        let same = one_way n n (first ∷ others) broken.blocks r.tail broken.tail bytes h h
        (told_in n (first ∷ others) r.tail bytes few r.is)
        (told_in n broken.blocks broken.tail bytes few broken.is) r.is broken.is in
        true_or_false (is_damaged n (behind_all 48 broken.blocks) broken.tail) broken.more
        ((λ i. is_damaged n (behind_all 48 (sym same.1 i)) (sym same.2 i)) ∙ r.torn)

-- A file with one block more, by what is before that block.
pub parts : (n : ℕ) (ps : List (List ℕ)) (p : List ℕ)
    → file_text n (ps ++ p ∷ []) ≡ file_text n ps ++ block_text n (behind_all 48 ps) p
parts n ps p =
    ap (λ t. file_head n ++ t) (goes_behind n 48 ps p)
    ∙ sym (append_assoc (file_head n) (blocks_text n 48 ps) (block_text n (behind_all 48 ps) p))

whole_reads : (n : ℕ) (ps : List (List ℕ)) → Reads n ps (file_text n ps)
whole_reads n ps = record {
  tail = [];
  is = record { text = ap (λ t. file_head n ++ t) (sym (append-nil (blocks_text n 48 ps))); ends = refl };
  torn = refl;
}

cut_reads : (n j : ℕ) (ps : List (List ℕ)) (p : List ℕ) → length p < 2 ^ 64
    → j < length (block_text n (behind_all 48 ps) p)
    → Reads n ps (file_text n ps ++ take j (block_text n (behind_all 48 ps) p))
cut_reads n j ps p h less =
    let left = take j (block_text n (behind_all 48 ps) p) in
    let cut = tails n (behind_all 48 ps) j p h less in record {
      tail = left;
      is = record { text = append_assoc (file_head n) (blocks_text n 48 ps) left; ends = cut.0 };
      torn = cut.1;
    }

pub kept : FilesKeepWhatWasForced
kept n first others p bytes h few left =
    by_case (cases_lt left.keep (length (file_text n (first ∷ (others ++ p ∷ [])))))
  where
    before : List (List ℕ)
    before = first ∷ others

    last : List ℕ
    last = block_text n (behind_all 48 before) p

    size : length (file_text n (first ∷ (others ++ p ∷ []))) ≡ length (file_text n before) + length last
    size = ap length (parts n before p) ∙ length-append (file_text n before) last

    both : (ps : List (List ℕ)) (q : List ℕ) (qs : List (List ℕ)) → ps ≡ q ∷ qs → length bytes < 2 ^ 64
        → Reads n ps bytes
        → (IsDamaged bytes (file_number bytes) → ⊥)
        × ((m : ℕ) (held : List ℕ) → m < 2 ^ 64 → Holds bytes m held → held ≡ concat ps)
    both ps q qs e small r = (
      never_damaged n q qs bytes h small (subst (λ xs. Reads n xs bytes) e r),
      λ m held k there. reads_so n m ps bytes held h k small r there,
    )

    by_case : (left.keep < length (file_text n (first ∷ (others ++ p ∷ []))))
        ⊎ (length (file_text n (first ∷ (others ++ p ∷ []))) ≤ left.keep)
        → (IsDamaged bytes (file_number bytes) → ⊥)
        × ((m : ℕ) (held : List ℕ) → m < 2 ^ 64 → Holds bytes m held
        → (held ≡ concat before) ⊎ (held ≡ concat before ++ p))
    by_case (inl less) =
        let j = left.keep - length (file_text n before) in
        let is : bytes ≡ file_text n before ++ take j last =
        left.is ∙ ap (take left.keep) (parts n before p)
        ∙ past left.keep (length (file_text n before)) (file_text n before) last refl left.safe in
        let shorter : j < length last = omega (arith, size, less, left.safe) in
        let small : length bytes < 2 ^ 64 = omega (
          arith,
          ap length left.is,
          few,
          length-take left.keep (file_text n (first ∷ (others ++ p ∷ []))),
        ) in
        let body : length p < 2 ^ 64 = omega (arith, few, size, block_size n (behind_all 48 before) p) in
        let r = subst (Reads n before) (sym is) (cut_reads n j before p body shorter) in
        let found = both before first others refl small r in
        (found.0, λ m held k there. inl (found.1 m held k there))
    by_case (inr more) =
        let is : bytes ≡ file_text n (first ∷ (others ++ p ∷ [])) =
        left.is ∙ take_all left.keep (file_text n (first ∷ (others ++ p ∷ []))) more in
        let small : length bytes < 2 ^ 64 = omega (arith, ap length is, few) in
        let r = subst (Reads n (first ∷ (others ++ p ∷ []))) (sym is)
        (whole_reads n (first ∷ (others ++ p ∷ []))) in
        let found = both (first ∷ (others ++ p ∷ [])) first (others ++ p ∷ []) refl small r in
        (found.0, λ m held k there. inr (found.1 m held k there ∙ concat_more before p))
