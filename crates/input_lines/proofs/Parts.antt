-- Parts of a line.
use Rattle.std.proofs.Common.{◌≡◌, ◌≢◌, ◌+◌, ◌-◌, ◌∙◌, ℕ, zero, suc, true, false, List, [], ◌∷◌, ◌++◌, All, Option, None, Some, OnSome, length, take, get_or, ◌<◌, refl, sym, ap, subst, arith, append_assoc, append-nil}
use Rattle.std.proofs.lemmas.List.{take_more}
use Rattle.std.proofs.lemmas.List.Elements.{All-append}
use Rattle.std.proofs.KnownBytes.{Consumes-trans}
use Rattle.std.specs.Io.KnownBytes.{Consumes, IsAtEnd}
use Rattle.input_lines.specs.declared.reading.Reach.{Reach}
use Rattle.input_lines.specs.declared.reading.Reach.TheVariants.{Within, Feed, End}
use Rattle.input_lines.specs.Lines.{ReadsLine, longest}
use Rattle.input_lines.specs.Steps.{ReadsOn, ending}

-- a front of two lists is one of the first, and one of the second as far as there is room
pub front_of_two : (n : ℕ) (xs ys : List ℕ) → take n (xs ++ ys)
    ≡ take n xs ++ take (n - length (take n xs)) ys
front_of_two zero xs ys = refl
front_of_two (suc n) [] ys = let all : suc n ≡ suc n - 0 = omega arith in ap (λ k. take k ys) all
front_of_two (suc n) (x ∷ xs) ys =
    let less : suc n - length (take (suc n) (x ∷ xs)) ≡ n - length (take n xs) = omega arith in
    ap (λ l. x ∷ l) (front_of_two n xs ys ∙ ap (λ k. take n xs ++ take k ys) (sym less))

-- what a line takes of the bytes at hand: those before its line feed, and that
pub parts_of : (shown : List ℕ) (before : ℕ) (reach : Reach) → (reach ≡ Feed → before < length shown)
    → (before < length shown → get_or shown before 0 ≡ 10)
    → take (before + length (ending reach)) shown ≡ take before shown ++ ending reach
parts_of shown before Within lt hit =
    let none : before + 0 ≡ before = omega arith in ap (λ n. take n shown) none
    ∙ sym (append-nil (take before shown))
parts_of shown before End lt hit =
    let none : before + 0 ≡ before = omega arith in ap (λ n. take n shown) none
    ∙ sym (append-nil (take before shown))
parts_of shown before Feed lt hit =
    take_more shown before 0 (lt refl) ∙ ap (λ y. take before shown ++ y ∷ []) (hit (lt refl))

module _ (a b c : Option (List ℕ)) (part before after : List ℕ) (room : ℕ) (none : All (λ x. x ≢ 10) part)
    (took : Consumes a b part) (kept : before ≡ take (longest + 1) part)
    (fits : room ≡ longest + 1 - length before) where
  -- what is kept after one part more
  kept_on : (more : List ℕ) → after ≡ before ++ take room more → after ≡ take (longest + 1) (part ++ more)
  kept_on more h =
      h ∙ ap (λ l. l ++ take room more) kept
      ∙ ap (λ k. take (longest + 1) part ++ take k more) (fits ∙ ap (λ l. longest + 1 - length l) kept)
      ∙ sym (front_of_two (longest + 1) part more)

  -- the input is at its end, as the reader says that it began
  at_end : OnSome b (IsAtEnd c) → OnSome a (IsAtEnd c)
  at_end h = known a b took h
    where
      known : (x y : Option (List ℕ)) → Consumes x y part → OnSome y (IsAtEnd c) → OnSome x (IsAtEnd c)
      known None y t h = tt
      known (Some xs) None t h = absurd t
      known (Some xs) (Some ys) t h = h

  -- the line goes on
  pub goes_on : ReadsOn b c before after room Within
      → (all : List ℕ) × All (λ x. x ≢ 10) all × Consumes a c all × (after ≡ take (longest + 1) all)
  goes_on h = (
    part ++ h.part,
    All-append (λ x. x ≢ 10) part h.part none h.no_feed,
    subst (λ l. Consumes a c (part ++ l)) (append-nil h.part)
        (Consumes-trans a b c part (h.part ++ []) took h.took),
    kept_on h.part h.keeps,
  )

  -- a line feed ended it
  pub fed : ReadsOn b c before after room Feed → ReadsLine a c after true
  fed h = record {
    piece = record { front = part ++ h.part; fed = true };
    next = record {
      no_feed = All-append (λ x. x ≢ 10) part h.part none h.no_feed;
      took = subst (Consumes a c) (sym (append_assoc part h.part (10 ∷ [])))
          (Consumes-trans a b c part (h.part ++ 10 ∷ []) took h.took);
      last = λ e. absurd (cc);
    };
    keeps = record { front = kept_on h.part h.keeps; fed = refl };
  }

  -- the input ended it
  pub ended : ReadsOn b c before after room End → ReadsLine a c after false
  ended h = record {
    piece = record { front = part ++ h.part; fed = false };
    next = record {
      no_feed = All-append (λ x. x ≢ 10) part h.part none h.no_feed;
      took = subst (Consumes a c) (sym (append_assoc part h.part []))
          (Consumes-trans a b c part (h.part ++ []) took h.took);
      last = λ e. at_end (h.end refl);
    };
    keeps = record { front = kept_on h.part h.keeps; fed = refl };
  }
