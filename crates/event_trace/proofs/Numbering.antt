-- Bytes of lines, one after another.
use Rattle.std.proofs.Common.{◌≡◌, ◌∙◌, ap, sym, ℕ, zero, suc, ◌+◌, ◌≤◌, ◌==◌, Bool, List, [], ◌∷◌, ◌++◌, drop, length, refl, arith}
use Rattle.std.proofs.lemmas.List.{append-nil, append_assoc}
use Rattle.event_trace.specs.Numbered.{byte_text, numbered_on}

dropped_all : (xs : List ℕ) (k : ℕ) → length xs ≤ k → drop k xs ≡ []
dropped_all [] zero h = refl
dropped_all [] (suc k) h = refl
dropped_all (x ∷ xs) zero h = absurd (omega arith)
dropped_all (x ∷ xs) (suc k) h = dropped_all xs k (omega arith)

-- one byte more
pub one_more : (lines : List ℕ) (k n b : ℕ) (begins : Bool) (old new all : List ℕ)
    → drop k lines ≡ b ∷ drop (k + 1) lines → new ≡ old ++ byte_text begins n b
    → old ++ numbered_on begins n (drop k lines) ≡ all
    → new ++ numbered_on (b == 10) n (drop (k + 1) lines) ≡ all
unfolding numbered_on
one_more lines k n b begins old new all next is so =
    ap (λ (xs : List ℕ). xs ++ numbered_on (b == 10) n (drop (k + 1) lines)) is
    ∙ append_assoc old (byte_text begins n b) (numbered_on (b == 10) n (drop (k + 1) lines))
    ∙ ap (λ xs. old ++ numbered_on begins n xs) (sym next) ∙ so

-- no byte is left
pub at_end : (lines : List ℕ) (k n : ℕ) (begins : Bool) (old all : List ℕ) → length lines ≤ k
    → old ++ numbered_on begins n (drop k lines) ≡ all → old ≡ all
unfolding numbered_on
at_end lines k n begins old all past so =
    sym (append-nil old) ∙ ap (λ xs. old ++ numbered_on begins n xs) (sym (dropped_all lines k past)) ∙ so
