-- What is left of a script, line by line.
use Rattle.std.proofs.Common.{◌≡◌, ℕ, ◌+◌, ◌-◌, ◌≤◌, ◌<◌, Bool, true, false, ◌||◌, ◌⊎◌, eqb, List, [], ◌∷◌, ◌++◌, length, get_or, take, drop, Option, Some, None, refl, ap, sym, ◌∙◌, arith, append_assoc, length-append, option_map, inl, inr}
use Rattle.std.proofs.lemmas.Bool.{cases_lt, lt-ltb, le-ltb}
use Rattle.std.proofs.lemmas.Grind.{flat_map-append}
use Rattle.std.proofs.lemmas.List.Sums.{fails_before_first, count_by-le-length}
use Rattle.std.specs.List.{position_or_len, before_first, after_first}
use Rattle.std.proofs.lemmas.List.{append-nil, take_at}
use Rattle.std.proofs.lemmas.List.Splits.{slice_split_first, slice_split_none, length-slice_split}
use Rattle.std.specs.Prelude.{codes}
use Rattle.std.specs.List.{slice_range}
use Rattle.std.specs.Str.Lines.{lines, lines_of_parts}
use Rattle.std.proofs.lemmas.Bool.{cases_Bool}
use Rattle.std.specs.Str.{IsUtf8, IsCharBoundary}
use Rattle.std.proofs.lemmas.Str.{IsUtf8-drop, IsCharBoundary-after_ascii, IsCharBoundary-at_seam}
use Rattle.std.proofs.lemmas.List.{get_or_at}
use Rattle.std.proofs.lemmas.Slice.Eq.{bytes_eq-Decides}
use Rattle.script_words.specs.Steps.{same}
use Rattle.spellings.specs.Words.{cut_at}
use Rattle.spellings.proofs.Cuts.{cut_takes, some_is, drop_past}
use Rattle.tree_script.specs.Rules.{pieces, is_rule, last_rule, rule_or, around_rule}
use Rattle.protocol.specs.declared.trees.TreeProcess.{TreeProcess}
use Rattle.tree_script.specs.Documents.{IsTreeText}
use Rattle.tree_script.specs.Inputs.{HasTreeText}
use Rattle.trace_lines.specs.Trace.{line_text, lines_text}

abbrev pub with_fronts : List (List ℕ) → Option (List (List ℕ) × List (List ℕ))
    → Option (List (List ℕ) × List (List ℕ))
with_fronts fronts found = option_map (λ p. (fronts ++ p.0, p.1)) found

abbrev pub pair : List ℕ → List ℕ → List ℕ × List ℕ
pair a b = (a, b)

abbrev pub both : List (List ℕ) → List (List ℕ) → List (List ℕ) × List (List ℕ)
both a b = (a, b)

abbrev feed : ℕ → Bool
feed b = eqb b 10

-- the first piece of a text with a line feed
first_piece : (rest line more : List ℕ) → cut_at 10 rest ≡ Some (pair line more)
    → pieces rest ≡ line ∷ pieces more
first_piece rest line more e =
    elim (cases_lt (position_or_len feed rest) (length rest)) [
      | inl lt ↦ (
          let found : Some (pair (before_first feed rest) (after_first feed rest)) ≡ Some (pair line more) =
          rw (lt-ltb _ _ lt) at e in
          let same = some_is (pair (before_first feed rest) (after_first feed rest)) (pair line more) found in
          slice_split_first feed rest 0 lt ∙ ap (λ (p : List ℕ × List ℕ). p.0 ∷ pieces p.1) same)
      | inr le ↦ absurd (let no : None ≡ Some (pair line more) = rw (le-ltb _ _ le) at e in cc)
    ]

-- a text without a line feed is one piece
one_piece : (rest : List ℕ) → cut_at 10 rest ≡ None → pieces rest ≡ rest ∷ []
one_piece rest e =
    elim (cases_lt (position_or_len feed rest) (length rest)) [
      | inl lt ↦ absurd (let no : Some (pair (before_first feed rest) (after_first feed rest)) ≡ None =
          rw (lt-ltb _ _ lt) at e in cc)
      | inr le ↦ slice_split_none feed rest (λ k d lt. fails_before_first feed rest k d (omega arith))
    ]

some_pieces : (text : List ℕ) → 0 < length (pieces text)
some_pieces text = omega (arith, length-slice_split feed text)

around_more : (piece : List ℕ) (more : List (List ℕ)) → 0 < length more
    → around_rule (piece ∷ more) ≡ rule_or piece more (around_rule more)
unfolding around_rule
around_more piece [] some = absurd (omega arith)
around_more piece (next ∷ more) some = refl

around_one : (piece : List ℕ) → around_rule (piece ∷ []) ≡ last_rule piece
unfolding around_rule
around_one piece = refl

around_line : (rest line more : List ℕ) → cut_at 10 rest ≡ Some (pair line more)
    → around_rule (pieces rest) ≡ rule_or line (pieces more) (around_rule (pieces more))
around_line rest line more e = ap around_rule (first_piece rest line more e)
    ∙ around_more line (pieces more) (some_pieces more)

lines_push : (fronts : List (List ℕ)) (line : List ℕ)
    → lines_text (fronts ++ line ∷ []) ≡ lines_text fronts ++ (line ++ 10 ∷ [])
lines_push fronts line =
    flat_map-append line_text fronts (line ∷ [])
    ∙ ap (λ (t : List ℕ). lines_text fronts ++ t) (append-nil (line ++ 10 ∷ []))

regroup : (a b c : List ℕ) → a ++ (b ++ 10 ∷ c) ≡ (a ++ (b ++ 10 ∷ [])) ++ c
regroup a b c = simp append_assoc

joined : (fronts : List (List ℕ)) (line : List ℕ) (found : Option (List (List ℕ) × List (List ℕ)))
    → with_fronts fronts (with_fronts (line ∷ []) found) ≡ with_fronts (fronts ++ line ∷ []) found
joined fronts line None = refl
joined fronts line (Some p) = ap (λ (t : List (List ℕ)). Some (both t p.1))
    (sym (append_assoc fronts (line ∷ []) p.0))

-- the first lines are no longer than their text
pub fewer : (fronts : List (List ℕ)) → length fronts ≤ length (lines_text fronts)
fewer [] = omega arith
fewer (line ∷ fronts) =
    omega (
      arith,
      fewer fronts,
      length-append (line ++ 10 ∷ []) (lines_text fronts),
      length-append line (10 ∷ []),
    )

-- where the rule begins, what is before it is the document
pub document : (text rest : List ℕ) (fronts : List (List ℕ)) → text ≡ lines_text fronts ++ rest
    → take (length text - length rest) text ≡ lines_text fronts
document text rest fronts e =
    let n : length (lines_text fronts) ≡ length text - length rest =
    omega (arith, ap length e, length-append (lines_text fronts) rest) in
    ap (take (length text - length rest)) e ∙ take_at (lines_text fronts) rest (length text - length rest) n

-- one more line that is no rule
pub goes_on : (text rest line more : List ℕ) (fronts : List (List ℕ)) → text ≡ lines_text fronts ++ rest
    → cut_at 10 rest ≡ Some (pair line more) → is_rule line ≡ false
    → with_fronts fronts (around_rule (pieces rest)) ≡ around_rule (pieces text)
    → (text ≡ lines_text (fronts ++ line ∷ []) ++ more)
    × (with_fronts (fronts ++ line ∷ []) (around_rule (pieces more)) ≡ around_rule (pieces text))
goes_on text rest line more fronts e cut plain so_far =
    let here : rest ≡ line ++ 10 ∷ more = cut_takes 10 rest (pair line more) cut in
    let text_is : text ≡ lines_text (fronts ++ line ∷ []) ++ more =
    e ∙ ap (λ (t : List ℕ). lines_text fronts ++ t) here ∙ regroup (lines_text fronts) line more
    ∙ ap (λ (t : List ℕ). t ++ more) (sym (lines_push fronts line)) in
    let step : around_rule (pieces rest) ≡ with_fronts (line ∷ []) (around_rule (pieces more)) =
    around_line rest line more cut ∙ rw plain refl in (
      text_is,
      sym (joined fronts line (around_rule (pieces more))) ∙ ap (with_fronts fronts) (sym step)
          ∙ so_far,
    )

either : (a b : Bool) → (a || b) ≡ true → (a ≡ true) ⊎ (b ≡ true)
either true b h = inl refl
either false b h = inr h

rule_long : (line : List ℕ) → is_rule line ≡ true → 3 ≤ length line
rule_long line rule =
    elim (either (same line (codes "---")) (same line (codes "---\r")) rule) [
      | inl h ↦ (let is : line ≡ codes "---" = (bytes_eq-Decides line (codes "---")).0 h in
          omega (arith, ap length is))
      | inr h ↦ (let is : line ≡ codes "---\r" = (bytes_eq-Decides line (codes "---\r")).0 h in
          omega (arith, ap length is))
    ]

-- a line that is the rule
pub found : (text rest line more : List ℕ) (fronts : List (List ℕ)) → text ≡ lines_text fronts ++ rest
    → cut_at 10 rest ≡ Some (pair line more) → is_rule line ≡ true
    → with_fronts fronts (around_rule (pieces rest)) ≡ around_rule (pieces text)
    → (around_rule (pieces text) ≡ Some (both fronts (pieces more)))
    × (length (lines_text fronts) + length more + 3 ≤ length text)
found text rest line more fronts e cut rule so_far =
    let here : rest ≡ line ++ 10 ∷ more = cut_takes 10 rest (pair line more) cut in
    let step : around_rule (pieces rest) ≡ Some (both [] (pieces more)) = around_line rest line more cut
    ∙ rw rule refl in (
      sym so_far ∙ ap (with_fronts fronts) step
          ∙ ap (λ (t : List (List ℕ)). Some (both t (pieces more))) (append-nil fronts),
      omega (
        arith,
        ap length e,
        ap length here,
        length-append (lines_text fronts) rest,
        length-append line (10 ∷ more),
        rule_long line rule,
      ),
    )

-- the last line, which has no line feed
pub last : (text rest : List ℕ) (fronts : List (List ℕ)) → cut_at 10 rest ≡ None
    → with_fronts fronts (around_rule (pieces rest)) ≡ around_rule (pieces text)
    → around_rule (pieces text) ≡ with_fronts fronts (last_rule rest)
last text rest fronts none so_far = sym so_far
    ∙ ap (λ (t : List (List ℕ)). with_fronts fronts (around_rule t)) (one_piece rest none)
    ∙ ap (with_fronts fronts) (around_one rest)

pub last_found : (text rest : List ℕ) (fronts : List (List ℕ)) → text ≡ lines_text fronts ++ rest
    → cut_at 10 rest ≡ None
    → with_fronts fronts (around_rule (pieces rest)) ≡ around_rule (pieces text)
    → same rest (codes "---") ≡ true
    → (around_rule (pieces text) ≡ Some (both fronts [])) × (length (lines_text fronts) + 0 + 3 ≤ length text)
last_found text rest fronts e none so_far rule =
    let is : rest ≡ codes "---" = (bytes_eq-Decides rest (codes "---")).0 rule in
    let found : last_rule rest ≡ Some (both [] []) = rw rule refl in (
      last text rest fronts none so_far ∙ ap (with_fronts fronts) found
          ∙ ap (λ (t : List (List ℕ)). Some (both t [])) (append-nil fronts),
      omega (arith, ap length e, ap length is, length-append (lines_text fronts) rest),
    )

pub last_none : (text rest : List ℕ) (fronts : List (List ℕ)) → cut_at 10 rest ≡ None
    → with_fronts fronts (around_rule (pieces rest)) ≡ around_rule (pieces text)
    → same rest (codes "---") ≡ false
    → around_rule (pieces text) ≡ None
last_none text rest fronts none so_far rule =
    let found : last_rule rest ≡ None = rw rule refl in
    last text rest fronts none so_far ∙ ap (with_fronts fronts) found

-- there are no more lines than bytes
pub fewer_lines : (text rest line more : List ℕ) (fronts : List (List ℕ)) → text ≡ lines_text fronts ++ rest
    → cut_at 10 rest ≡ Some (pair line more) → length fronts < length text
fewer_lines text rest line more fronts e cut =
    let here : rest ≡ line ++ 10 ∷ more = cut_takes 10 rest (pair line more) cut in
    omega (
      arith,
      ap length e,
      ap length here,
      length-append (lines_text fronts) rest,
      length-append line (10 ∷ more),
      fewer fronts,
    )

pub one_longer : (fronts : List (List ℕ)) (line : List ℕ) → length fronts + 1 ≡ length (fronts ++ line ∷ [])
one_longer fronts line = omega (arith, length-append fronts (line ∷ []))

-- what is after a line feed is text
pub text_behind : (rest line more : List ℕ) → IsUtf8 rest → cut_at 10 rest ≡ Some (pair line more)
    → IsUtf8 more
text_behind rest line more u cut =
    let here : rest ≡ line ++ 10 ∷ more = cut_takes 10 rest (pair line more) cut in
    let byte : get_or rest (length line) 0 ≡ 10 = ap (λ (t : List ℕ). get_or t (length line) 0) here
    ∙ get_or_at line 10 more 0 (length line) refl in
    let lt : length line < length rest = omega (arith, ap length here, length-append line (10 ∷ more)) in
    let behind : drop (length line + 1) rest ≡ more = ap (drop (length line + 1)) here
    ∙ drop_past line 10 more in
    let p = IsUtf8-drop rest (length line + 1) u
    (IsCharBoundary-after_ascii rest (length line) u lt (omega (arith, byte))) in
    rw behind at p

pub document_range : (text rest : List ℕ) (fronts : List (List ℕ)) → text ≡ lines_text fronts ++ rest
    → slice_range text 0 (length text - length rest) ≡ lines_text fronts
document_range text rest fronts e =
    let zero_off : length text - length rest - 0 ≡ length text - length rest = omega arith in
    ap (λ (n : ℕ). take n text) zero_off ∙ document text rest fronts e

-- where the rule begins a text may be cut
pub seam : (text rest : List ℕ) (fronts : List (List ℕ)) → text ≡ lines_text fronts ++ rest → IsUtf8 rest
    → IsCharBoundary text (length text - length rest)
seam text rest fronts e u =
    let n : length (lines_text fronts) ≡ length text - length rest =
    omega (arith, ap length e, length-append (lines_text fronts) rest) in
    rw (← n) (IsCharBoundary-at_seam text (lines_text fronts) rest e u)

parts_few : (parts : List (List ℕ)) → length (lines_of_parts parts) ≤ length parts
parts_few [] = omega arith
parts_few (x ∷ []) = elim (cases_Bool (eqb (length x) 0))
    [ inl t ↦ rw t (omega arith) | inr f ↦ rw f (omega arith) ]
parts_few (x ∷ y ∷ more) = omega (arith, parts_few (y ∷ more))

-- a text has at most one line more than bytes
pub lines_few : (text : List ℕ) → length (lines text) ≤ length text + 1
lines_few text = omega (
  arith,
  parts_few (pieces text),
  length-slice_split feed text,
  count_by-le-length feed text,
)

-- there is one tree text
pub no_tree : (bytes document : List ℕ) (fronts behind : List (List ℕ))
    → around_rule (pieces bytes) ≡ Some (both fronts behind)
    → document ≡ lines_text fronts → ((es : List TreeProcess) → IsTreeText document es → ⊥)
    → (fs bs : List (List ℕ)) (tree : List TreeProcess) → HasTreeText bytes fs bs tree → ⊥
no_tree bytes document fronts behind rule is none fs bs tree h =
    let same : both fronts behind ≡ both fs bs =
    some_is (both fronts behind) (both fs bs) (sym rule ∙ h.rule) in
    let text : IsTreeText (lines_text fs) tree = h.tree_text in
    let one : lines_text fs ≡ document = ap (λ (p : List (List ℕ) × List (List ℕ)). lines_text p.0) (sym same)
    ∙ sym is in
    none tree (rw one at text)

-- the numbers of lines stay below those of bytes
pub lines_fit : (document text : List ℕ) (behind : List ℕ) (fronts : List (List ℕ)) (count : ℕ)
    → document ≡ lines_text fronts
    → length document + length behind + 3 ≤ length text → count ≡ length (lines behind)
    → length fronts + 1 + count < length text
lines_fit document text behind fronts count is long few =
    omega (arith, ap length is, fewer fronts, lines_few behind)
