-- The bytes of as many records as were kept keep them again.
use Rattle.std.proofs.Common.{◌≡◌, ◌∙◌, ◌+◌, ◌-◌, ap, refl, sym, ℕ, Bool, true, false, nat_le, if◌then◌else◌, List, [], ◌∷◌, length, arith}
use Rattle.std.proofs.lemmas.Bool.{le-leb, leb-false, lt-leb}
use Rattle.protocol.specs.declared.records.LogRecord.{LogRecord}
use Rattle.log_records.specs.Sights.{record_size, whole_within}
use Rattle.proof_one_thread.specs.Again.{bytes_of_first}

more_fits : (n m : ℕ) → nat_le n (n + m) ≡ true
more_fits n m = le-leb n (n + m) (omega arith)

left_over : (n m : ℕ) → n + m - n ≡ m
left_over n m = omega arith

none_fits : (n m : ℕ) → nat_le n m ≡ false → nat_le n 0 ≡ false
none_fits n m h = let lt = leb-false n m h in lt-leb n 0 (omega (arith, lt))

-- one record more
whole_by : (l : LogRecord) (n : ℕ) (kept ls : List LogRecord) (b : Bool) → nat_le (record_size l) n ≡ b
    → whole_within (bytes_of_first (length kept) ls) ls ≡ kept
    → whole_within (bytes_of_first (length (if b then l ∷ kept else [])) (l ∷ ls)) (l ∷ ls)
    ≡ (if b then l ∷ kept else [])
unfolding whole_within
whole_by l n kept ls true is again =
    let size = record_size l in
    let more = bytes_of_first (length kept) ls in
    ap (λ b. if b then l ∷ whole_within (size + more - size) ls else []) (more_fits size more)
    ∙ ap (λ m. l ∷ whole_within m ls) (left_over size more) ∙ ap (λ ms. l ∷ ms) again
whole_by l n kept ls false is again =
    ap (λ b. if b then l ∷ whole_within (0 - record_size l) ls else []) (none_fits (record_size l) n is)

pub whole_again : (n : ℕ) (ls : List LogRecord)
    → whole_within (bytes_of_first (length (whole_within n ls)) ls) ls ≡ whole_within n ls
unfolding whole_within
whole_again n [] = refl
whole_again n (l ∷ ls) =
    whole_by l n (whole_within (n - record_size l) ls) ls (nat_le (record_size l) n) refl
    (whole_again (n - record_size l) ls)
