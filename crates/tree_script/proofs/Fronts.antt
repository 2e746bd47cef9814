-- The first lines of a script, and one more.
use Rattle.std.proofs.Common.{◌≡◌, ◌∙◌, ap, sym, subst, refl, ℕ, suc, ◌+◌, ◌<◌, Bool, true, false, List, [], ◌∷◌, ◌++◌, take, length, get_or, Option, None, Some, Result, Ok, Err, arith}
use Rattle.std.specs.Prelude.{slice_get}
use Rattle.std.proofs.Math.Seq.{take-suc}
use Rattle.std.proofs.lemmas.List.{append-nil}
use Rattle.protocol.specs.declared.events.Event.{Event}
use Rattle.script_words.specs.Lines.{is_skipped}
use Rattle.tree_script.specs.Events.{event_at}
use Rattle.tree_script.specs.Inputs.{Asks, AsksFirst, LinesState}
use Rattle.tree_script.specs.Script.{events_at, line_then, with_front}
use Rattle.tree_script.proofs.Asked.{at_line, at_skipped}
use Rattle.tree_script.proofs.Reading.{asked_here}

-- the lines after a line ask for more events, and so do it and they
then_more : (n : ℕ) (o : Option Event) (r s : Result (List Event) ℕ) (es fs : List Event)
    → ((more : List Event) → r ≡ Ok more → s ≡ Ok (more ++ fs)) → line_then n o r ≡ Ok es
    → line_then n o s ≡ Ok (es ++ fs)
then_more n None r s es fs on is = absurd (cc)
then_more n (Some e) (Err k) s es fs on is = absurd (cc)
then_more n (Some e) (Ok more) s es fs on is =
    let same : e ∷ more ≡ es = cc in
    ap (with_front (e ∷ [])) (on more refl) ∙ ap (λ (xs : List Event). Ok (xs ++ fs)) same

-- a line after these and the one before them
behind_one : (read : List ℕ → Option Event) (n : ℕ) (x l : List ℕ) (ls : List (List ℕ)) (es fs : List Event)
    (b : Bool) → is_skipped x ≡ b
    → ((m : ℕ) (gs : List Event) → events_at read m ls ≡ Ok gs
    → events_at read m (ls ++ l ∷ []) ≡ Ok (gs ++ fs))
    → events_at read n (x ∷ ls) ≡ Ok es → events_at read n (x ∷ (ls ++ l ∷ [])) ≡ Ok (es ++ fs)
behind_one read n x l ls es fs true is on h =
    at_skipped read n x (ls ++ l ∷ []) is ∙ on (n + 1) es (sym (at_skipped read n x ls is) ∙ h)
behind_one read n x l ls es fs false is on h =
    at_line read n x (ls ++ l ∷ []) is
    ∙ then_more n (read x) (events_at read (n + 1) ls) (events_at read (n + 1) (ls ++ l ∷ [])) es fs
    (on (n + 1)) (sym (at_line read n x ls is) ∙ h)

none_asked : (read : List ℕ → Option Event) (n : ℕ) → events_at read n [] ≡ Ok []
unfolding events_at
none_asked read n = refl

-- a line after these asks for these events, whatever its number
behind_all : (read : List ℕ → Option Event) (l : List ℕ) (fs : List Event)
    → ((m : ℕ) → events_at read m (l ∷ []) ≡ Ok fs) → (ls : List (List ℕ)) (n : ℕ) (es : List Event)
    → events_at read n ls ≡ Ok es → events_at read n (ls ++ l ∷ []) ≡ Ok (es ++ fs)
behind_all read l fs one [] n es h =
    let both = sym (none_asked read n) ∙ h in
    let none : [] ≡ es = cc in
    one n ∙ ap (λ (xs : List Event). Ok (xs ++ fs)) none
behind_all read l fs one (x ∷ ls) n es h =
    behind_one read n x l ls es fs (is_skipped x) refl (behind_all read l fs one ls) h

-- one line more was read
first_more : (s : LinesState) (i : ℕ) (es fs : List Event) → i < length s.lines
    → ((m : ℕ) → events_at (event_at s.root) m (get_or s.lines i [] ∷ []) ≡ Ok fs)
    → AsksFirst s i es → AsksFirst s (i + 1) (es ++ fs)
first_more s i es fs within one h =
    let next : i + 1 ≡ suc i = omega arith in
    ap (λ k. events_at (event_at s.root) (s.before + 1) (take k s.lines)) next
    ∙ ap (events_at (event_at s.root) (s.before + 1)) (take-suc s.lines i [] within)
    ∙ behind_all (event_at s.root) (get_or s.lines i []) fs one (take i s.lines) (s.before + 1) es h

skipped : (read : List ℕ → Option Event) (m : ℕ) (l : List ℕ) → is_skipped l ≡ true
    → events_at read m (l ∷ []) ≡ Ok []
skipped read m l is = at_skipped read m l [] is ∙ none_asked read (m + 1)

read_one : (read : List ℕ → Option Event) (m : ℕ) (l : List ℕ) (e : Event) → is_skipped l ≡ false
    → read l ≡ Some e → events_at read m (l ∷ []) ≡ Ok (e ∷ [])
read_one read m l e kept is =
    at_line read m l [] kept ∙ ap (λ o. line_then m o (events_at read (m + 1) [])) is
    ∙ ap (with_front (e ∷ [])) (none_asked read (m + 1))

-- no line was read
pub asks_none : (s : LinesState) → AsksFirst s 0 []
asks_none s = none_asked (event_at s.root) (s.before + 1)

-- a line was read that is skipped
pub asks_no_more : (s : LinesState) (i : ℕ) (o : Option Event) (es : List Event) → i < length s.lines
    → Asks s.root (s.before + i + 1) (slice_get s.lines i) (Ok o) → o ≡ None
    → AsksFirst s i es → AsksFirst s (i + 1) es
asks_no_more s i (Some e) es within asks is h = absurd (cc)
asks_no_more s i None es within asks is h =
    let here = asked_here s i (Ok None) within asks in
    subst (AsksFirst s (i + 1)) (append-nil es)
    (first_more s i es [] within (λ m. skipped (event_at s.root) m (get_or s.lines i []) here) h)

-- a line was read that asks for an event
pub asks_one_more : (s : LinesState) (i : ℕ) (o : Option Event) (e : Event) (es : List Event)
    → i < length s.lines → Asks s.root (s.before + i + 1) (slice_get s.lines i) (Ok o) → o ≡ Some e
    → AsksFirst s i es → AsksFirst s (i + 1) (es ++ e ∷ [])
asks_one_more s i o e es within asks is h =
    let here = asked_here s i (Ok (Some e)) within
    (subst (λ (x : Option Event). Asks s.root (s.before + i + 1) (slice_get s.lines i) (Ok x)) is asks) in
    first_more s i es (e ∷ []) within
    (λ m. read_one (event_at s.root) m (get_or s.lines i []) e here.0 here.1) h
