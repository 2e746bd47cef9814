-- A transcript that grows by a line.
use Rattle.std.proofs.Common.{◌≡◌, ℕ, ◌+◌, Bool, true, false, not, List, [], ◌∷◌, ◌++◌, length, Option, Some, None, refl, sym, ap, ◌∙◌, subst, arith, append_assoc}
use Rattle.std.specs.Prelude.{if◌then◌else◌}
use Rattle.std.proofs.lemmas.List.{append-nil, length-append}
use Rattle.std.proofs.lemmas.List.Elements.{filter-append}
use Rattle.judge_rules.specs.declared.calls.HistoryEvent.{HistoryEvent}
use Rattle.judge_rules.specs.declared.words.Rules.{Rules}
use Rattle.judge_script.specs.declared.reading.Transcript.{Transcript}
use Rattle.script_words.specs.Steps.{◌>>=◌}
use Rattle.judge_script.specs.Headers.{ruled}
use Rattle.judge_script.specs.Numbers.{Grows, IsLineEvent, NameTable, table_of}
use Rattle.judge_script.specs.Words.{is_blank, words_in}
use Rattle.judge_script.specs.Transcripts.{AreEvents, AreTranscript, kept_lines, kept_numbers, ruled_by}
use Rattle.judge_script.proofs.Places.{event_more, place_more}

one_kept : (l : List ℕ) → is_blank l ≡ false → kept_lines (l ∷ []) ≡ l ∷ []
one_kept l e = rw e refl

one_passed : (l : List ℕ) → is_blank l ≡ true → kept_lines (l ∷ []) ≡ []
one_passed l e = rw e refl

kept_more : (ls : List (List ℕ)) (l : List ℕ) → is_blank l ≡ false
    → kept_lines (ls ++ l ∷ []) ≡ kept_lines ls ++ l ∷ []
kept_more ls l e = filter-append (λ line. not (is_blank line)) ls (l ∷ [])
    ∙ ap (λ (q : List (List ℕ)). kept_lines ls ++ q) (one_kept l e)

kept_same : (ls : List (List ℕ)) (l : List ℕ) → is_blank l ≡ true → kept_lines (ls ++ l ∷ []) ≡ kept_lines ls
kept_same ls l e = filter-append (λ line. not (is_blank line)) ls (l ∷ [])
    ∙ ap (λ (q : List (List ℕ)). kept_lines ls ++ q) (one_passed l e) ∙ append-nil (kept_lines ls)

numbers_first : (i : ℕ) (l : List ℕ) → is_blank l ≡ false → kept_numbers i (l ∷ []) ≡ i ∷ []
numbers_first i l e = rw e refl

numbers_passed : (i : ℕ) (l : List ℕ) → is_blank l ≡ true → kept_numbers i (l ∷ []) ≡ []
numbers_passed i l e = rw e refl

numbers_step : (b : Bool) (i : ℕ) (r s t : List ℕ) → r ≡ s ++ t
    → (if b then r else i ∷ r) ≡ (if b then s else i ∷ s) ++ t
numbers_step true i r s t e = e
numbers_step false i r s t e = ap (λ (q : List ℕ). i ∷ q) e

numbers_join : (i : ℕ) (ls : List (List ℕ)) (l : List ℕ)
    → kept_numbers i (ls ++ l ∷ []) ≡ kept_numbers i ls ++ kept_numbers (i + length ls) (l ∷ [])
numbers_join i [] l = ap (λ (j : ℕ). kept_numbers j (l ∷ [])) (let e : i ≡ i + 0 = omega arith in e)
numbers_join i (k ∷ ls) l =
    numbers_step (is_blank k) i (kept_numbers (i + 1) (ls ++ l ∷ [])) (kept_numbers (i + 1) ls)
    (kept_numbers (i + length (k ∷ ls)) (l ∷ []))
    (numbers_join (i + 1) ls l ∙ ap (λ (j : ℕ). kept_numbers (i + 1) ls ++ kept_numbers j (l ∷ []))
    (let e : i + 1 + length ls ≡ i + length (k ∷ ls) = omega arith in e))

numbers_more : (ls : List (List ℕ)) (l : List ℕ) (n : ℕ) → is_blank l ≡ false → n ≡ length ls + 1
    → kept_numbers 1 (ls ++ l ∷ []) ≡ kept_numbers 1 ls ++ n ∷ []
numbers_more ls l n e is = numbers_join 1 ls l ∙ ap (λ (q : List ℕ). kept_numbers 1 ls ++ q)
    (numbers_first (1 + length ls) l e ∙ ap (λ (j : ℕ). j ∷ [])
    (let k : 1 + length ls ≡ n = omega (arith, is) in k))

numbers_same : (ls : List (List ℕ)) (l : List ℕ) → is_blank l ≡ true
    → kept_numbers 1 (ls ++ l ∷ []) ≡ kept_numbers 1 ls
numbers_same ls l e = numbers_join 1 ls l ∙ ap (λ (q : List ℕ). kept_numbers 1 ls ++ q)
    (numbers_passed (1 + length ls) l e) ∙ append-nil (kept_numbers 1 ls)

events_more : (n : NameTable) (ls : List (List ℕ)) (es : List HistoryEvent) (l : List ℕ) (e : HistoryEvent)
    → AreEvents n ls es
    → IsLineEvent n (words_in l) e → AreEvents n (ls ++ l ∷ []) (es ++ e ∷ [])
events_more n [] [] l e h is = (is, tt)
events_more n [] (d ∷ es) l e h is = absurd h
events_more n (k ∷ ls) [] l e h is = absurd h
events_more n (k ∷ ls) (d ∷ es) l e h is = (h.0, events_more n ls es l e h.1 is)

events_grow : (n m : NameTable) (ls : List (List ℕ)) (es : List HistoryEvent) → Grows n m → AreEvents n ls es
    → AreEvents m ls es
events_grow n m [] [] g h = tt
events_grow n m [] (d ∷ es) g h = absurd h
events_grow n m (k ∷ ls) [] g h = absurd h
events_grow n m (k ∷ ls) (d ∷ es) g h =
    (event_more n m g (words_in k) d h.0, events_grow n m ls es g h.1)

no_events : (n : NameTable) (ls : List (List ℕ)) (es : List HistoryEvent) → length es ≡ 0 → AreEvents n ls es
    → ls ≡ []
no_events n [] es none h = refl
no_events n (l ∷ ls) [] none h = absurd h
no_events n (l ∷ ls) (e ∷ es) none h = absurd (omega (arith, none))

none_left : {A : Type 0} (xs : List A) → length xs ≡ 0 → xs ≡ []
none_left [] e = refl
none_left (x ∷ xs) e = absurd (omega (arith, e))

ruled_on : (o : Option Rules) (ls : List (List ℕ)) (l : List ℕ) (q p : Rules)
    → (o >>= (λ s. ruled_by s ls)) ≡ Some q
    → ((s : Rules) → ruled_by s ls ≡ Some q → ruled_by s (ls ++ l ∷ []) ≡ Some p)
    → (o >>= (λ s. ruled_by s (ls ++ l ∷ []))) ≡ Some p
ruled_on None ls l q p e more = cc
ruled_on (Some s) ls l q p e more = more s e

ruled_more : (ls : List (List ℕ)) (l : List ℕ) (r q p : Rules) → ruled_by r ls ≡ Some q
    → ruled q (words_in l) ≡ Some p → ruled_by r (ls ++ l ∷ []) ≡ Some p
ruled_more [] l r q p e f =
    let k : r ≡ q = cc in
    let g : ruled r (words_in l) ≡ Some p = rw k f in rw g refl
ruled_more (k ∷ ls) l r q p e f = ruled_on (ruled r (words_in k)) ls l q p e
    (λ s h. ruled_more ls l s q p h f)

-- a line is passed over
pub passes : (ls : List (List ℕ)) (l : List ℕ) (t : Transcript) → is_blank l ≡ true → AreTranscript ls t
    → AreTranscript (ls ++ l ∷ []) t
passes ls l t blank h = record {
  first = h.first;
  others = h.others;
  numbers = h.numbers;
  parts = kept_same ls l blank ∙ h.parts;
  places = numbers_same ls l blank ∙ h.places;
  long = h.long;
  each = h.each;
  rules = h.rules;
  events = h.events;
  apart_xids = h.apart_xids;
  apart_words = h.apart_words;
  no_value = h.no_value;
}

-- a line is one of the first
pub rules_more : (ls : List (List ℕ)) (l : List ℕ) (t : Transcript) (q : Rules) (n : ℕ) → is_blank l ≡ false
    → n ≡ length ls + 1 → length t.events.items ≡ 0 → ruled t.rules (words_in l) ≡ Some q → AreTranscript ls t
    → AreTranscript (ls ++ l ∷ []) (record t { rules = q })
rules_more ls l t q n kept is none rules h =
    let no_others : h.others ≡ [] = no_events (table_of t.names) h.others t.events.items none h.events in
    let no_lines : t.lines.items ≡ [] = none_left t.lines.items (h.each ∙ none) in
    record {
      first = h.first ++ l ∷ [];
      others = [];
      numbers = h.numbers ++ n ∷ [];
      parts = kept_more ls l kept ∙ ap (λ (k : List (List ℕ)). k ++ l ∷ [])
          (h.parts ∙ ap (λ (o : List (List ℕ)). h.first ++ o) no_others ∙ append-nil h.first)
          ∙ sym (append-nil (h.first ++ l ∷ []));
      places = numbers_more ls l n kept is ∙ ap (λ (k : List ℕ). k ++ n ∷ [])
          (h.places ∙ ap (λ (o : List ℕ). h.numbers ++ o) no_lines ∙ append-nil h.numbers)
          ∙ sym (append-nil (h.numbers ++ n ∷ [])) ∙ ap (λ (o : List ℕ). (h.numbers ++ n ∷ []) ++ o)
          (sym no_lines);
      long = omega (arith, length-append h.first (l ∷ []), length-append h.numbers (n ∷ []), h.long);
      each = h.each;
      rules = ruled_more h.first l _ t.rules q h.rules rules;
      events = subst (λ (o : List (List ℕ)). AreEvents (table_of t.names) o t.events.items)
          no_others h.events;
      apart_xids = h.apart_xids;
      apart_words = h.apart_words;
      no_value = h.no_value;
    }

-- a line is a call and its answer
pub event_added : (ls : List (List ℕ)) (l : List ℕ) (t u : Transcript) (e : HistoryEvent) (n : ℕ)
    → is_blank l ≡ false
    → n ≡ length ls + 1 → u.rules ≡ t.rules → u.events.items ≡ t.events.items ++ e ∷ []
    → u.lines.items ≡ t.lines.items ++ n ∷ [] → Grows (table_of t.names) (table_of u.names)
    → IsLineEvent (table_of u.names) (words_in l) e → AreTranscript ls t → AreTranscript (ls ++ l ∷ []) u
event_added ls l t u e n kept is rules events lines grows event h = record {
  first = h.first;
  others = h.others ++ l ∷ [];
  numbers = h.numbers;
  parts = kept_more ls l kept ∙ ap (λ (k : List (List ℕ)). k ++ l ∷ []) h.parts
      ∙ append_assoc h.first h.others (l ∷ []);
  places = numbers_more ls l n kept is ∙ ap (λ (k : List ℕ). k ++ n ∷ []) h.places
      ∙ append_assoc h.numbers t.lines.items (n ∷ []) ∙ ap (λ (k : List ℕ). h.numbers ++ k) (sym lines);
  long = h.long;
  each = ap length lines ∙ length-append t.lines.items (n ∷ []) ∙ ap (λ (k : ℕ). k + 1) h.each
      ∙ sym (length-append t.events.items (e ∷ [])) ∙ sym (ap length events);
  rules = h.rules ∙ ap (λ (q : Rules). Some q) (sym rules);
  events = subst (λ (es : List HistoryEvent). AreEvents (table_of u.names) (h.others ++ l ∷ []) es)
      (sym events)
      (events_more (table_of u.names) h.others t.events.items l e
      (events_grow (table_of t.names) (table_of u.names) h.others t.events.items grows h.events) event);
  apart_xids = grows.apart_xids h.apart_xids;
  apart_words = grows.apart_words h.apart_words;
  no_value = place_more _ _ 0 _ grows.words h.no_value;
}
