-- Lines of printed characters, and where a text of such lines is cut.
use Rattle.std.proofs.Common.{◌≡◌, ℕ, zero, suc, ◌+◌, ◌-◌, ◌%◌, ◌<◌, ◌≤◌, ◌^◌, true, false, ◌==◌, nat_le, nat_lt, List, [], ◌∷◌, ◌++◌, length, All, codes, decimal, IsAscii, IsUtf8, Some, slice_index, refl, ap, ◌∙◌, inl, inr, arith, ◌&&◌}
use Rattle.std.proofs.lemmas.Bool.Decides.{nat_tests}
use Rattle.std.proofs.lemmas.Bool.{and_parts}
use Rattle.std.proofs.lemmas.Fmt.{decimal_by_steps}
use Rattle.std.proofs.lemmas.List.Elements.{All-head, All-tail}
use Rattle.std.proofs.lemmas.Str.{IsUtf8-from_ascii}
use Rattle.std.specs.Char.{IsAsciiAlphabetic}
use Rattle.std.specs.List.{AllByRecursion, list_all}
use Rattle.std.specs.Str.Lines.{lines_of_parts, strip_carriage_return}
use Rattle.spellings.specs.HexText.{is_lower_digit}
use Rattle.trace_lines.specs.Trace.{lines_text}
use Rattle.tree_script.specs.Rules.{pieces, is_rule, rule_or, around_rule}

-- a printed character
pub record IsPrinted (c : ℕ) : Type 0 where
  pub no_feed : (c == 10) ≡ false
  pub no_return : (c == 13) ≡ false
  pub ascii : c < 128

abbrev pub ArePrinted : List ℕ → Type 0
ArePrinted s = AllByRecursion IsPrinted s

pub is_printed : (c : ℕ) → 32 ≤ c → c < 128 → IsPrinted c
is_printed c low high = record {
  no_feed = grind (arith, nat_tests);
  no_return = grind (arith, nat_tests);
  ascii = high;
}

pub printed_append : (a b : List ℕ) → ArePrinted a → ArePrinted b → ArePrinted (a ++ b)
printed_append [] b h k = k
printed_append (c ∷ cs) b h k = (h.0, printed_append cs b h.1 k)

pub decimal_printed : (n : ℕ) → n < 2 ^ 64 → ArePrinted (decimal n)
decimal_printed n h =
    decimal_by_steps (λ k ds. ArePrinted ds) (λ k lt. (is_printed (48 + k) (omega arith) (omega arith), tt))
    (λ k ds big before. printed_append ds ((48 + k % 10) ∷ []) before
    (is_printed (48 + k % 10) (omega arith) (omega arith), tt)) n h

letter : (c : ℕ) → IsAsciiAlphabetic c → IsPrinted c
letter c (inl h) = is_printed c (omega arith) (omega arith)
letter c (inr h) = is_printed c (omega arith) (omega arith)

pub letters_printed : (s : List ℕ) → All IsAsciiAlphabetic s → ArePrinted s
letters_printed [] h = tt
letters_printed (c ∷ cs) h = (
  letter c (All-head IsAsciiAlphabetic c cs h),
  letters_printed cs (All-tail IsAsciiAlphabetic c cs h),
)

pub digits_printed : (s : List ℕ) → list_all is_lower_digit s ≡ true → ArePrinted s
digits_printed [] h = tt
digits_printed (c ∷ cs) h =
    let (here, more) = and_parts (is_lower_digit c) (list_all is_lower_digit cs) h in
    (is_printed c (grind (arith, nat_tests)) (grind (arith, nat_tests)), digits_printed cs more)

-- a word all of whose characters are in range, as one that is written out
pub word_printed : (s : List ℕ) → list_all (λ c. nat_le 32 c && nat_lt c 128) s ≡ true → ArePrinted s
word_printed [] h = tt
word_printed (c ∷ cs) h =
    let (here, more) = and_parts (nat_le 32 c && nat_lt c 128)
    (list_all (λ d. nat_le 32 d && nat_lt d 128) cs) h in
    (is_printed c (grind (arith, nat_tests)) (grind (arith, nat_tests)), word_printed cs more)

-- Lines.

abbrev pub ArePrintedLines : List (List ℕ) → Type 0
ArePrintedLines lines = AllByRecursion ArePrinted lines

pub lines_append : (a b : List (List ℕ)) → ArePrintedLines a → ArePrintedLines b → ArePrintedLines (a ++ b)
lines_append [] b h k = k
lines_append (x ∷ a) b h k = (h.0, lines_append a b h.1 k)

abbrev AreAscii : List ℕ → Type 0
AreAscii s = AllByRecursion (λ c. c < 128) s

line_ascii : (line rest : List ℕ) → ArePrinted line → AreAscii rest → AreAscii (line ++ 10 ∷ [] ++ rest)
line_ascii [] rest h k = (omega arith, k)
line_ascii (c ∷ line) rest h k = (h.0.ascii, line_ascii line rest h.1 k)

text_ascii : (lines : List (List ℕ)) → ArePrintedLines lines → AreAscii (lines_text lines)
text_ascii [] h = tt
text_ascii (line ∷ lines) h = line_ascii line (lines_text lines) h.0 (text_ascii lines h.1)

ascii : (s : List ℕ) → AreAscii s → IsAscii s
ascii [] h i = omega arith
ascii (c ∷ cs) h zero = h.0
ascii (c ∷ cs) h (suc i) = ascii cs h.1 i

-- the text of printed lines is text
pub text_is_utf8 : (lines : List (List ℕ)) → ArePrintedLines lines → IsUtf8 (lines_text lines)
text_is_utf8 lines h = IsUtf8-from_ascii (lines_text lines) (ascii (lines_text lines) (text_ascii lines h))

-- It is cut into these lines, and an empty piece after them.

abbrev pub ended : List (List ℕ) → List (List ℕ)
ended lines = lines ++ [] ∷ []

piece : (line rest : List ℕ) → ArePrinted line → pieces (line ++ 10 ∷ [] ++ rest) ≡ line ∷ pieces rest
piece [] rest h = refl
piece (c ∷ line) rest h = rw (h.0.no_feed, piece line rest h.1) refl

pub text_pieces : (lines : List (List ℕ)) → ArePrintedLines lines → pieces (lines_text lines) ≡ ended lines
text_pieces [] h = refl
text_pieces (line ∷ lines) h =
    piece line (lines_text lines) h.0 ∙ ap (λ (ps : List (List ℕ)). line ∷ ps) (text_pieces lines h.1)

around_more : (front : List ℕ) (more : List (List ℕ)) → 0 < length more
    → around_rule (front ∷ more) ≡ rule_or front more (around_rule more)
unfolding around_rule
around_more front [] some = absurd (omega arith)
around_more front (next ∷ more) some = refl

abbrev AreNoRules : List (List ℕ) → Type 0
AreNoRules lines = AllByRecursion (λ line. is_rule line ≡ false) lines

some_behind : (fronts : List (List ℕ)) (p : List ℕ) (rest : List (List ℕ)) → 0 < length (fronts ++ p ∷ rest)
some_behind [] p rest = omega arith
some_behind (f ∷ fronts) p rest = omega arith

-- the first line of three dashes is after the lines that are none
pub rule_found : (fronts behind : List (List ℕ)) → AllByRecursion (λ line. is_rule line ≡ false) fronts
    → around_rule (fronts ++ codes "---" ∷ ended behind) ≡ Some (fronts, ended behind)
rule_found [] behind h = around_more (codes "---") (ended behind) (some_behind behind [] [])
rule_found (f ∷ fronts) behind h =
    around_more f (fronts ++ codes "---" ∷ ended behind) (some_behind fronts (codes "---") (ended behind))
    ∙ rw (h.0, rule_found fronts behind h.1) refl

no_return : (line : List ℕ) (i : ℕ) → ArePrinted line → (slice_index line i == 13) ≡ false
no_return [] i h = refl
no_return (c ∷ line) zero h = h.0.no_return
no_return (c ∷ line) (suc i) h = no_return line i h.1

unstripped : (line : List ℕ) → ArePrinted line → strip_carriage_return line ≡ line
unstripped line h = rw (no_return line (length line - 1) h)

one_part : (x : List ℕ) (parts : List (List ℕ)) → 0 < length parts
    → lines_of_parts (x ∷ parts) ≡ strip_carriage_return x ∷ lines_of_parts parts
one_part x [] some = absurd (omega arith)
one_part x (y ∷ more) some = refl

-- the lines of these pieces are the lines
pub lines_again : (lines : List (List ℕ)) → ArePrintedLines lines → lines_of_parts (ended lines) ≡ lines
lines_again [] h = refl
lines_again (line ∷ lines) h =
    one_part line (ended lines) (some_behind lines [] [])
    ∙ rw (unstripped line h.0, lines_again lines h.1) refl
