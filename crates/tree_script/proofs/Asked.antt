-- One more line of a script.
use Rattle.std.proofs.Common.{◌≡◌, ℕ, ◌+◌, ◌≤◌, ◌<◌, true, false, List, [], ◌∷◌, ◌++◌, length, get_or, drop, Option, Some, None, Result, Ok, Err, refl, ap, sym, ◌∙◌, append_assoc}
use Rattle.std.proofs.lemmas.List.{append-nil, drop_all, at_drop_more}
use Rattle.protocol.specs.declared.events.Event.{Event}
use Rattle.script_words.specs.Lines.{is_skipped}
use Rattle.tree_script.specs.Script.{with_front, line_then, events_at}

pub at_line : (read : List ℕ → Option Event) (n : ℕ) (l : List ℕ) (ls : List (List ℕ)) → is_skipped l ≡ false
    → events_at read n (l ∷ ls) ≡ line_then n (read l) (events_at read (n + 1) ls)
unfolding events_at
at_line read n l ls e = rw e refl

pub at_skipped : (read : List ℕ → Option Event) (n : ℕ) (l : List ℕ) (ls : List (List ℕ))
    → is_skipped l ≡ true
    → events_at read n (l ∷ ls) ≡ events_at read (n + 1) ls
unfolding events_at
at_skipped read n l ls e = rw e refl

fronts : (es : List Event) (e : Event) (r : Result (List Event) ℕ)
    → with_front es (with_front (e ∷ []) r) ≡ with_front (es ++ e ∷ []) r
fronts es e (Ok more) = ap (λ (x : List Event). Ok x) (sym (append_assoc es (e ∷ []) more))
fronts es e (Err f) = refl

at : (read : List ℕ → Option Event) (front : List Event) (n i : ℕ) (ls : List (List ℕ)) → i < length ls
    → with_front front (events_at read n (drop i ls))
    ≡ with_front front (events_at read n (get_or ls i [] ∷ drop (i + 1) ls))
at read front n i ls lt = at_drop_more (λ xs. with_front front (events_at read n xs)) ls i [] lt

pub skips : (read : List ℕ → Option Event) (front : List Event) (ls : List (List ℕ)) (n m i : ℕ)
    (total : Result (List Event) ℕ)
    → i < length ls → is_skipped (get_or ls i []) ≡ true → m ≡ n + 1
    → with_front front (events_at read n (drop i ls)) ≡ total
    → with_front front (events_at read m (drop (i + 1) ls)) ≡ total
skips read front ls n m i total lt skip next so_far =
    ap (λ (k : ℕ). with_front front (events_at read k (drop (i + 1) ls))) next
    ∙ sym (at read front n i ls lt ∙ ap (with_front front)
    (at_skipped read n (get_or ls i []) (drop (i + 1) ls) skip))
    ∙ so_far

reads : (read : List ℕ → Option Event) (front : List Event) (ls : List (List ℕ)) (n i : ℕ) → i < length ls
    → is_skipped (get_or ls i []) ≡ false
    → with_front front (events_at read n (drop i ls))
    ≡ with_front front (line_then n (read (get_or ls i [])) (events_at read (n + 1) (drop (i + 1) ls)))
reads read front ls n i lt kept =
    at read front n i ls lt ∙ ap (with_front front) (at_line read n (get_or ls i []) (drop (i + 1) ls) kept)

pub goes_on : (read : List ℕ → Option Event) (front : List Event) (ls : List (List ℕ)) (n m i : ℕ) (e : Event)
    (total : Result (List Event) ℕ) → i < length ls → is_skipped (get_or ls i []) ≡ false
    → read (get_or ls i []) ≡ Some e → m ≡ n + 1
    → with_front front (events_at read n (drop i ls)) ≡ total
    → with_front (front ++ e ∷ []) (events_at read m (drop (i + 1) ls)) ≡ total
goes_on read front ls n m i e total lt kept is next so_far =
    ap (λ (k : ℕ). with_front (front ++ e ∷ []) (events_at read k (drop (i + 1) ls))) next
    ∙ sym (fronts front e (events_at read (n + 1) (drop (i + 1) ls)))
    ∙ ap (λ (o : Option Event). with_front front (line_then n o (events_at read (n + 1) (drop (i + 1) ls))))
    (sym is)
    ∙ sym (reads read front ls n i lt kept) ∙ so_far

pub stops : (read : List ℕ → Option Event) (front : List Event) (ls : List (List ℕ)) (n i : ℕ)
    (total : Result (List Event) ℕ)
    → i < length ls → is_skipped (get_or ls i []) ≡ false → read (get_or ls i []) ≡ None
    → with_front front (events_at read n (drop i ls)) ≡ total → total ≡ Err n
stops read front ls n i total lt kept is so_far =
    sym so_far ∙ reads read front ls n i lt kept
    ∙ ap (λ (o : Option Event). with_front front (line_then n o (events_at read (n + 1) (drop (i + 1) ls))))
    is

pub ends : (read : List ℕ → Option Event) (front : List Event) (ls : List (List ℕ)) (n i : ℕ)
    (total : Result (List Event) ℕ)
    → length ls ≤ i → with_front front (events_at read n (drop i ls)) ≡ total → total ≡ Ok front
unfolding events_at
ends read front ls n i total le so_far =
    sym so_far ∙ ap (λ (x : List (List ℕ)). with_front front (events_at read n x)) (drop_all i ls le)
    ∙ ap (λ (x : List Event). Ok x) (append-nil front)
