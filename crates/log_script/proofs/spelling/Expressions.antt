-- The expressions of a document that has a line for each are read one after another; and words of letters as
-- strings.
use Rattle.std.proofs.Common.{◌≡◌, ℕ, ◌-◌, ◌<◌, true, false, ◌==◌, List, [], ◌∷◌, ◌++◌, length, All, codes, Option, Some, None, option_and_then, refl, sym, ap, ◌∙◌, inl, inr, arith, append_assoc}
use Rattle.std.proofs.lemmas.Bool.Decides.{nat_tests}
use Rattle.std.proofs.lemmas.List.Elements.{All-head, All-tail}
use Rattle.std.specs.Char.{IsAsciiAlphabetic}
use Rattle.std.specs.List.{AllByRecursion, list_any}
use Rattle.toml_parser.specs.Lexical.{skip_blank}
use Rattle.toml_parser.proofs.LexicalLemmas.{skip_from-nil}
use Rattle.toml_writer.specs.Text.{string_text, encoding_of, escaped, needs_escape, quotes_after, has, is_control}
use Rattle.toml.specs.Tables.{Expression, Document, define}
use Rattle.toml.specs.Parse.{line, lines}
use Rattle.toml.specs.Text.{IsLineText}
use Rattle.toml.proofs.Turns.{lines_end, lines_more, lines_refused}
use Rattle.toml.proofs.Blanks.{skip_newline, skip_within}
use Rattle.toml.proofs.ReadLines.{run, AllPrinted, line_turn}

-- The expressions of a document, each with a line of its own.

abbrev pub AreLines : List Expression → List ℕ → Type 0
AreLines [] text = text ≡ []
AreLines (e ∷ es) text =
    (this : List ℕ) × (rest : List ℕ) × (text ≡ this ++ rest) × IsLineText false false e.0 e.1 this
    × AreLines es rest

pub lines_append : (es fs : List Expression) (a b : List ℕ) → AreLines es a → AreLines fs b
    → AreLines (es ++ fs) (a ++ b)
lines_append [] fs a b h k = rw h k
lines_append (e ∷ es) fs a b (this, rest, whole, here, more) k =
    (this, rest ++ b, rw whole (append_assoc this rest b), here, lines_append es fs rest b more k)

pub printed_append : (es fs : List Expression) → AllPrinted es → AllPrinted fs → AllPrinted (es ++ fs)
printed_append [] fs a b = b
printed_append (e ∷ es) fs a b = (a.0, printed_append es fs a.1 b)

read_step : (m : ℕ) (doc : Document) (x : List ℕ) (e : Expression) (after : List ℕ) (es : List Expression)
    (defined : Option Document)
    → defined ≡ define doc e → 0 < m → (length (skip_blank x) == 0) ≡ false
    → line (skip_blank x) ≡ Some (e, after)
    → ((next : Document) → lines (m - 1) next after ≡ option_and_then (λ n. run n es) (Some next))
    → lines m doc x ≡ option_and_then (λ n. run n es) defined
read_step m doc x e after es None same some other read more =
    lines_refused m doc x e after some other read (sym same)
read_step m doc x e after es (Some next) same some other read more =
    lines_more m doc next x e after some other read (sym same) ∙ more next

-- they are read one after another
pub read_all : (es : List Expression) (text x : List ℕ) (doc : Document) (m : ℕ) → AreLines es text
    → AllPrinted es
    → skip_blank x ≡ skip_blank text → length x < m → lines m doc x ≡ run doc es
read_all [] text x doc m h ok skip room = lines_end m doc x (omega arith)
    (rw (skip, h, skip_from-nil true false) refl)
read_all (e ∷ es) text x doc m (this, rest, whole, here, more) ok skip room =
    let (s, at_start, read, some, shorter, not_bom) = line_turn false false e.0 e.1 this rest here ok.0 in
    let same : skip_blank x ≡ s = skip ∙ rw whole at_start in
    let other : (length (skip_blank x) == 0) ≡ false = rw same (grind (arith, nat_tests)) in
    let within = skip_within x in
    read_step m doc x e (10 ∷ rest) es (define doc e) refl (omega arith) other (rw same read)
    (λ next. read_all es rest (10 ∷ rest) next (m - 1) more ok.1 (skip_newline rest)
    (omega (arith, ap length same)))

-- A word of letters is a string between two quotes.

-- a letter, as a string's text has it
pub record IsPlain (c : ℕ) : Type 0 where
  no_control : is_control c ≡ false
  no_backslash : (c == 92) ≡ false
  no_quote : (c == 34) ≡ false
  no_line_feed : (c == 10) ≡ false
  no_escape : needs_escape false 0 c ≡ false

abbrev pub AllPlain : List ℕ → Type 0
AllPlain s = AllByRecursion IsPlain s

is_plain : (c : ℕ) → IsAsciiAlphabetic c → IsPlain c
unfolding needs_escape
is_plain c (inl h) =
    record {
      no_control = grind (arith, nat_tests);
      no_backslash = grind (arith, nat_tests);
      no_quote = grind (arith, nat_tests);
      no_line_feed = grind (arith, nat_tests);
      no_escape = grind (arith, nat_tests);
    }
is_plain c (inr h) =
    record {
      no_control = grind (arith, nat_tests);
      no_backslash = grind (arith, nat_tests);
      no_quote = grind (arith, nat_tests);
      no_line_feed = grind (arith, nat_tests);
      no_escape = grind (arith, nat_tests);
    }

pub all_plain : (s : List ℕ) → All IsAsciiAlphabetic s → AllPlain s
all_plain [] h = tt
all_plain (c ∷ cs) h = (
  is_plain c (All-head IsAsciiAlphabetic c cs h),
  all_plain cs (All-tail IsAsciiAlphabetic c cs h),
)

no_control : (s : List ℕ) → AllPlain s → list_any is_control s ≡ false
no_control [] h = refl
no_control (c ∷ cs) h = rw (h.0.no_control) (no_control cs h.1)

has_no : (d : ℕ) (s : List ℕ) → AllPlain s → ((c : ℕ) → IsPlain c → (c == d) ≡ false) → has d s ≡ false
has_no d [] h other = refl
has_no d (c ∷ cs) h other = rw (other c h.0) (has_no d cs h.1 other)

unescaped : (s : List ℕ) → AllPlain s → escaped false 0 s ≡ s
unfolding escaped quotes_after
unescaped [] h = refl
unescaped (c ∷ cs) h = rw (h.0.no_escape, h.0.no_quote) (ap (λ (t : List ℕ). c ∷ t) (unescaped cs h.1))

pub quoted_word : (s : List ℕ) → AllPlain s → string_text s ≡ codes "\"" ++ s ++ codes "\""
unfolding string_text encoding_of
quoted_word s h =
    rw (
      no_control s h,
      has_no 92 s h (λ c p. p.no_backslash),
      has_no 34 s h (λ c p. p.no_quote),
      has_no 10 s h (λ c p. p.no_line_feed),
    )
    (ap (λ (t : List ℕ). 34 ∷ t ++ 34 ∷ []) (unescaped s h))
