-- Words of visible bytes, and lines of such words.
use Rattle.std.proofs.Common.{◌≡◌, ℕ, zero, suc, ◌+◌, ◌/◌, ◌%◌, ◌<◌, ◌≤◌, Bool, true, false, cond, List, [], ◌∷◌, ◌++◌, length, All, refl, sym, ap, ◌∙◌, arith, append_assoc, inl, inr, ◌-◌}
use Rattle.std.specs.Prelude.{◌==◌, ◌&&◌, nat_le, slice_index}
use Rattle.std.specs.Fmt.{decimal, digits, digits_onto, digit_glyph}
use Rattle.std.specs.Char.{IsAsciiAlphabetic}
use Rattle.std.specs.List.{AllByRecursion, flat_map, join_with_byte, list_all, slice_split}
use Rattle.std.specs.Str.Lines.{lines, lines_of_parts, strip_carriage_return}
use Rattle.std.proofs.lemmas.Bool.{and_parts}
use Rattle.std.proofs.lemmas.Bool.Decides.{nat_tests}
use Rattle.std.proofs.lemmas.List.Elements.{All-head, All-tail}

pub same_again : (w : List ℕ) → w ≡ w
same_again w = refl

-- a byte of ASCII that is no space, and neither ends a line nor returns
pub record IsSeen (c : ℕ) : Type 0 where
  pub no_space : (c == 32) ≡ false
  pub no_feed : (c == 10) ≡ false
  pub no_return : (c == 13) ≡ false
  pub ascii : c < 128

abbrev pub IsWord : List ℕ → Type 0
IsWord w = AllByRecursion IsSeen w

abbrev pub AreWords : List (List ℕ) → Type 0
AreWords ws = AllByRecursion IsWord ws

pub seen : (c : ℕ) → 33 ≤ c → c ≤ 126 → IsSeen c
seen c low high = record {
  no_space = grind (arith, nat_tests);
  no_feed = grind (arith, nat_tests);
  no_return = grind (arith, nat_tests);
  ascii = omega arith;
}

pub word_append : (a b : List ℕ) → IsWord a → IsWord b → IsWord (a ++ b)
word_append [] b h k = k
word_append (c ∷ cs) b h k = (h.0, word_append cs b h.1 k)

pub words_append : (a b : List (List ℕ)) → AreWords a → AreWords b → AreWords (a ++ b)
words_append [] b h k = k
words_append (c ∷ cs) b h k = (h.0, words_append cs b h.1 k)

-- a word that is written out
pub word_is : (s : List ℕ) → list_all (λ c. nat_le 33 c && nat_le c 126) s ≡ true → IsWord s
word_is [] h = tt
word_is (c ∷ cs) h =
    let (here, more) = and_parts (nat_le 33 c && nat_le c 126)
    (list_all (λ d. nat_le 33 d && nat_le d 126) cs) h in
    (seen c (grind (arith, nat_tests)) (grind (arith, nat_tests)), word_is cs more)

-- numbers
glyph_seen : (n : ℕ) → IsSeen (digit_glyph false (n % 10))
glyph_seen n = let h : n % 10 < 10 = omega arith in small (n % 10) h
  where
    small : (d : ℕ) → d < 10 → IsSeen (digit_glyph false d)
    small d h = seen (digit_glyph false d) (grind (arith, nat_tests)) (grind (arith, nat_tests))

onto_step : (b : Bool) (x y : List ℕ) → IsWord x → IsWord y → IsWord (cond b x y)
onto_step true x y h k = h
onto_step false x y h k = k

digits_seen : (k n : ℕ) (acc : List ℕ) → IsWord acc → IsWord (digits_onto k 10 false n acc)
digits_seen zero n acc h = h
digits_seen (suc k) n acc h =
    onto_step (n / 10 == 0) (digit_glyph false (n % 10) ∷ acc)
    (digits_onto k 10 false (n / 10) (digit_glyph false (n % 10) ∷ acc)) (glyph_seen n, h)
    (digits_seen k (n / 10) (digit_glyph false (n % 10) ∷ acc) (glyph_seen n, h))

pub decimal_word : (n : ℕ) → IsWord (decimal n)
unfolding digits
decimal_word n = digits_seen 64 n [] tt

pub letters_word : (s : List ℕ) → All IsAsciiAlphabetic s → IsWord s
letters_word [] h = tt
letters_word (c ∷ cs) h = (
  letter c (All-head IsAsciiAlphabetic c cs h),
  letters_word cs (All-tail IsAsciiAlphabetic c cs h),
)
  where
    letter : (c : ℕ) → IsAsciiAlphabetic c → IsSeen c
    letter c (inl h) = seen c (omega arith) (omega arith)
    letter c (inr h) = seen c (omega arith) (omega arith)

-- a digit of a table, or 0 past its end
pub index_seen : (w : List ℕ) (k : ℕ) → IsWord w → IsSeen (slice_index w k)
index_seen [] k h = record { no_space = refl; no_feed = refl; no_return = refl; ascii = omega arith }
index_seen (c ∷ cs) zero h = h.0
index_seen (c ∷ cs) (suc k) h = index_seen cs k h.1

-- the words of a line

abbrev pub words_of : List ℕ → List (List ℕ)
words_of line = slice_split (λ b. b == 32) line

abbrev pub line_of : List (List ℕ) → List ℕ
line_of ws = join_with_byte 32 ws

pub one_word : (w : List ℕ) → IsWord w → words_of w ≡ w ∷ []
one_word [] h = refl
one_word (c ∷ cs) h = rw (h.0.no_space, one_word cs h.1) refl

pub first_word : (w rest : List ℕ) → IsWord w → words_of (w ++ 32 ∷ rest) ≡ w ∷ words_of rest
first_word [] rest h = refl
first_word (c ∷ cs) rest h = rw (h.0.no_space, first_word cs rest h.1) refl

-- the words of a line are the words of which it is made
pub words_again : (w : List ℕ) (ws : List (List ℕ)) → AreWords (w ∷ ws) → words_of (line_of (w ∷ ws)) ≡ w ∷ ws
words_again w [] h = one_word w h.0
words_again w (v ∷ ws) h = first_word w (line_of (v ∷ ws)) h.0
    ∙ ap (λ (q : List (List ℕ)). w ∷ q) (words_again v ws h.1)

pub lines_join : (w : List ℕ) (ws : List (List ℕ)) (v : List ℕ) (vs : List (List ℕ))
    → line_of ((w ∷ ws) ++ v ∷ vs) ≡ line_of (w ∷ ws) ++ 32 ∷ line_of (v ∷ vs)
lines_join w [] v vs = refl
lines_join w (x ∷ ws) v vs =
    ap (λ (q : List ℕ). w ++ 32 ∷ q) (lines_join x ws v vs)
    ∙ sym (append_assoc w (32 ∷ line_of (x ∷ ws)) (32 ∷ line_of (v ∷ vs)))

-- Lines of a text.

pub record IsPrinted (c : ℕ) : Type 0 where
  pub no_feed : (c == 10) ≡ false
  pub no_return : (c == 13) ≡ false
  pub ascii : c < 128

abbrev pub IsLine : List ℕ → Type 0
IsLine l = AllByRecursion IsPrinted l

abbrev pub AreLines : List (List ℕ) → Type 0
AreLines ls = AllByRecursion IsLine ls

printed : (c : ℕ) → IsSeen c → IsPrinted c
printed c h = record { no_feed = h.no_feed; no_return = h.no_return; ascii = h.ascii }

space : IsPrinted 32
space = record { no_feed = refl; no_return = refl; ascii = omega arith }

pub word_line : (w : List ℕ) → IsWord w → IsLine w
word_line [] h = tt
word_line (c ∷ cs) h = (printed c h.0, word_line cs h.1)

pub line_append : (a b : List ℕ) → IsLine a → IsLine b → IsLine (a ++ b)
line_append [] b h k = k
line_append (c ∷ cs) b h k = (h.0, line_append cs b h.1 k)

pub line_words : (ws : List (List ℕ)) → AreWords ws → IsLine (line_of ws)
line_words [] h = tt
line_words (w ∷ []) h = word_line w h.0
line_words (w ∷ v ∷ ws) h = line_append w (32 ∷ line_of (v ∷ ws)) (word_line w h.0)
    (space, line_words (v ∷ ws) h.1)

-- a text of lines
abbrev pub text_of : List (List ℕ) → List ℕ
text_of ls = flat_map (λ l. l ++ 10 ∷ []) ls

abbrev pieces : List ℕ → List (List ℕ)
pieces t = slice_split (λ b. b == 10) t

piece : (line rest : List ℕ) → IsLine line → pieces ((line ++ 10 ∷ []) ++ rest) ≡ line ∷ pieces rest
piece [] rest h = refl
piece (c ∷ line) rest h = rw (h.0.no_feed, piece line rest h.1) refl

text_pieces : (ls : List (List ℕ)) → AreLines ls → pieces (text_of ls) ≡ ls ++ [] ∷ []
text_pieces [] h = refl
text_pieces (l ∷ ls) h = piece l (text_of ls) h.0 ∙ ap (λ (ps : List (List ℕ)). l ∷ ps) (text_pieces ls h.1)

no_return : (line : List ℕ) (i : ℕ) → IsLine line → (slice_index line i == 13) ≡ false
no_return [] i h = refl
no_return (c ∷ line) zero h = h.0.no_return
no_return (c ∷ line) (suc i) h = no_return line i h.1

unstripped : (line : List ℕ) → IsLine line → strip_carriage_return line ≡ line
unstripped line h = rw (no_return line (length line - 1) h)

one_part : (x : List ℕ) (parts : List (List ℕ)) → 0 < length parts
    → lines_of_parts (x ∷ parts) ≡ strip_carriage_return x ∷ lines_of_parts parts
one_part x [] some = absurd (omega arith)
one_part x (y ∷ more) some = refl

some_later : (fronts : List (List ℕ)) (p : List ℕ) (rest : List (List ℕ)) → 0 < length (fronts ++ p ∷ rest)
some_later [] p rest = omega arith
some_later (f ∷ fronts) p rest = omega arith

lines_ended : (ls : List (List ℕ)) → AreLines ls → lines_of_parts (ls ++ [] ∷ []) ≡ ls
lines_ended [] h = refl
lines_ended (l ∷ ls) h =
    one_part l (ls ++ [] ∷ []) (some_later ls [] [])
    ∙ rw (unstripped l h.0, lines_ended ls h.1) refl

-- the lines of a text are the lines of which it is made
pub lines_again : (ls : List (List ℕ)) → AreLines ls → lines (text_of ls) ≡ ls
lines_again ls h = ap lines_of_parts (text_pieces ls h) ∙ lines_ended ls h
