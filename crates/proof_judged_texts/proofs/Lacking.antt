-- No line of the transcript is bad.
use Rattle.std.proofs.Common.{◌≡◌, ◌≢◌, ℕ, zero, suc, ◌+◌, ◌<◌, ◌⊎◌, Bool, true, false, cond, List, [], ◌∷◌, ◌++◌, length, map, take, Option, Some, None, refl, sym, ap, ◌∙◌, subst, arith, codes, inl, inr}
use Rattle.std.specs.Prelude.{IsSomeAnd, nat_eq, slice_index_or}
use Rattle.std.specs.Cmp.Lexicographic.{bytes_decides, pointwise}
use Rattle.std.specs.Global.{Global}
use Rattle.std.specs.Vec.{vec_allocator}
use Rattle.std.specs.Vec.Covariant.{in_vec}
use Rattle.std.specs.Str.Lines.{lines}
use Rattle.xa_xid.specs.Xids.{null_xid}
use Rattle.xa_xid.specs.declared.xid.Xid.{Xid}
use Rattle.xa_branch.specs.Names.{same}
use Rattle.xa_branch.proofs.Names.{same_is, same_refl}
use Rattle.judge_rules.specs.declared.calls.JudgedAnswer.{JudgedAnswer}
use Rattle.judge_rules.specs.declared.calls.JudgedAnswer.TheVariants as judged
use Rattle.judge_rules.specs.declared.calls.JudgedCall.{JudgedCall}
use Rattle.judge_rules.specs.declared.calls.JudgedCall.TheVariants as call
use Rattle.judge_rules.specs.declared.calls.HistoryEvent.{HistoryEvent}
use Rattle.judge_words.specs.function
use Rattle.judge_rules.specs.declared.calls.XidSort.{XidSort}
use Rattle.judge_rules.specs.declared.calls.XidSort.TheVariants as sort
use Rattle.judge_rules.specs.declared.words.Rules.{Rules}
use Rattle.judge_script.specs.declared.asking.TranscriptCall.{TranscriptCall}
use Rattle.judge_script.specs.declared.asking.TranscriptCall.TheVariants as asked
use Rattle.judge_script.specs.declared.asking.CallWord.{CallWord}
use Rattle.judge_script.specs.declared.answers.SaidAnswer.{SaidAnswer}
use Rattle.judge_script.specs.declared.answers.SaidAnswer.TheVariants as said
use Rattle.judge_script.specs.declared.reading.Transcript.{Transcript}
use Rattle.judge_script.specs.Askings.{AsksBy, word_at}
use Rattle.judge_script.specs.Headers.{ruled}
use Rattle.judge_script.specs.Numbers.{ArePlaces, IsLineAnswer, IsCall, IsLineEvent, IsPlace, IsSort, NameTable, table_of}
use Rattle.judge_script.specs.Transcripts.{AreEvents, AreTranscript, IsBadLine, IsFirstBadLine, IsNoLine}
use Rattle.judge_script.specs.Words.{words_in}
use Rattle.xa_engine.specs.declared.script.request.Request.{Request}
use Rattle.xa_engine.specs.declared.answer.RequestAnswer.{RequestAnswer}
use Rattle.xa_engine.specs.Runs.{report_text}
use Rattle.xa_engine.specs.script.Scripts.{IsXaScript, call_lines}
use Rattle.proof_judged_texts.specs.Texts.{transcript}
use Rattle.proof_judged_texts.proofs.Numbers.{number_by, xid_key, xid_key_one}
use Rattle.proof_judged_texts.proofs.Requests.{IsWorded}
use Rattle.proof_judged_texts.proofs.Answers.{AreReadable, IsSpoken}
use Rattle.proof_judged_texts.proofs.Events.{heads, words_with}
use Rattle.proof_judged_texts.proofs.Reading.{AreRows, Last, Row, are_rows, calls_kept, first_no_event, made_lines, row_words, rows}

-- Names of a list.

abbrev Among : List Xid → Xid → Type 0
Among [] x = ⊥
Among (y ∷ ys) x = (x ≡ y) ⊎ Among ys x

abbrev placed : List Xid → Xid → ℕ
placed names x = number_by xid_key names x

place_next : (y : Xid) (ys : List Xid) (x : Xid) (k : ℕ) → IsPlace ys k x → IsPlace (y ∷ ys) (suc k) x
place_next y ys x k h = (let lt = h.0 in omega arith, h.1)

place_by : (b : Bool) (y : Xid) (ys : List Xid) (x : Xid) → b ≡ pointwise nat_eq (xid_key x) (xid_key y)
    → (b ≡ false → IsPlace ys (placed ys x) x) → IsPlace (y ∷ ys) (cond b 0 (suc (placed ys x))) x
place_by true y ys x e more =
    let is : x ≡ y = xid_key_one x y ((bytes_decides (xid_key x) (xid_key y)).0 (sym e))
    in (omega arith, sym is)
place_by false y ys x e more = place_next y ys x (placed ys x) (more refl)

-- a name of the list has its number
place_among : (names : List Xid) (x : Xid) → Among names x → IsPlace names (placed names x) x
place_among [] x h = absurd h
place_among (y ∷ ys) x (inl is) =
    place_by (pointwise nat_eq (xid_key x) (xid_key y)) y ys x refl
    (λ e. absurd (let gone : false ≡ true = sym e ∙ (bytes_decides (xid_key x) (xid_key y)).1 (ap xid_key is)
    in cc))
place_among (y ∷ ys) x (inr h) =
    place_by (pointwise nat_eq (xid_key x) (xid_key y)) y ys x refl (λ e. place_among ys x h)

all_places : (names xs : List Xid) → ((x : Xid) → Among xs x → Among names x)
    → ArePlaces names (map (placed names) xs) xs
all_places names [] f = tt
all_places names (x ∷ xs) f = (place_among names x (f x (inl refl)), all_places names xs (λ y h. f y (inr h)))

-- Calls and answers, numbered.

sort_by : (b c : Bool) (x : Xid) → b ≡ same x null_xid → (c ≡ true → x.bqual ≡ [])
    → (c ≡ false → x.bqual ≢ [])
    → (s : XidSort) × IsSort x s
sort_by true c x e f g = (sort.Null, same_is x null_xid (sym e))
sort_by false true x e f g = (sort.Bare, (not_null, f refl))
  where
    not_null : x ≢ null_xid
    not_null i = let gone : false ≡ true = e ∙ ap (λ (y : Xid). same y null_xid) i ∙ same_refl null_xid in cc
sort_by false false x e f g = (sort.Full, (not_null, g refl))
  where
    not_null : x ≢ null_xid
    not_null i = let gone : false ≡ true = e ∙ ap (λ (y : Xid). same y null_xid) i ∙ same_refl null_xid in cc

empty_is : (bs : List ℕ) → pointwise nat_eq bs [] ≡ true → bs ≡ []
empty_is bs e = (bytes_decides bs []).0 e

empty_not : (bs : List ℕ) → pointwise nat_eq bs [] ≡ false → bs ≢ []
empty_not bs e is = let gone : false ≡ true = sym e ∙ (bytes_decides bs []).1 is in cc

sorted : (x : Xid) → (s : XidSort) × IsSort x s
sorted x = sort_by (same x null_xid) (pointwise nat_eq x.bqual []) x refl (empty_is x.bqual)
    (empty_not x.bqual)

abbrev xid_in : TranscriptCall → Xid
xid_in (asked.Branch v t x f) = x
xid_in (asked.Decide x c) = x
xid_in a = null_xid

abbrev key_in : TranscriptCall → List ℕ
key_in (asked.Get t k) = k.now
key_in (asked.Put t k v) = k.now
key_in a = []

abbrev value_in : TranscriptCall → List ℕ
value_in (asked.Put t k v) = v.now
value_in a = []

call_there : (n : NameTable) (a : TranscriptCall) → IsPlace n.xids 0 (xid_in a) → IsPlace n.words 0 (key_in a)
    → IsPlace n.words 1 (value_in a) → (c : JudgedCall) × IsCall n a c
call_there n (asked.Open f) p q s = (call.Function (function.Open f), refl)
call_there n (asked.Close f) p q s = (call.Function (function.Close f), refl)
call_there n (asked.Branch v t x f) p q s =
    let (k, is) = sorted x in (
      call.Function (function.Branch v (record {
        thread = t;
        xid = record { number = 0; sort = k };
        flags = f;
      })),
      (refl, refl, refl, p, is),
    )
call_there n (asked.Recover t c f) p q s = (call.Function (function.Recover t c f), (refl, refl, refl))
call_there n (asked.Get t k) p q s = (call.Get t 0, (refl, q))
call_there n (asked.Put t k v) p q s = (call.Put t 0 1, (refl, q, s))
call_there n (asked.Decide x c) p q s = (call.Decide 0 c, (refl, p))
call_there n (asked.Restart c) p q s = (call.Restart c, refl)
call_there n (asked.Disconnect t) p q s = (call.Disconnect t, refl)
call_there n asked.Trim p q s = (call.Trim, tt)

abbrev found_in : SaidAnswer → List ℕ
found_in (said.Found v) = v.now
found_in s = []

abbrev given_in : SaidAnswer → List Xid
given_in (said.Given xs) = xs.items
given_in s = []

answer_there : (n : NameTable) (s : SaidAnswer) → IsPlace n.words 2 (found_in s)
    → ((x : Xid) → Among (given_in s) x → Among n.xids x)
    → (j : JudgedAnswer) × IsLineAnswer n s j
answer_there n (said.Code c) p f = (judged.Code c, refl)
answer_there n (said.Given xs) p f = (judged.Given (in_vec (placed n.xids) xs), all_places n.xids xs.items f)
answer_there n (said.Found v) p f = (judged.Found 2, p)
answer_there n said.Done p f = (judged.Done, tt)
answer_there n said.Refused p f = (judged.Refused, tt)
answer_there n said.Told p f = (judged.Told, tt)
answer_there n said.Hung p f = (judged.Hung, tt)

table_for : TranscriptCall → SaidAnswer → NameTable
table_for a s = record { xids = xid_in a ∷ given_in s; words = key_in a ∷ value_in a ∷ found_in s ∷ [] }

-- the words of a row spell an event
event_there : (l : List ℕ) (r : Request) (a : RequestAnswer) (w : IsWorded l r) (s : IsSpoken a)
    → ((n : NameTable) (e : HistoryEvent) → IsLineEvent n (words_with w s) e → ⊥) → ⊥
unfolding table_for
event_there l r a w s lacks =
    let n = table_for w.asked s.said in
    let (c, is_c) = call_there n w.asked (omega arith, refl) (omega arith, refl) (omega arith, refl) in
    let (j, is_j) = answer_there n s.said (omega arith, refl) (λ x h. inr h) in
    let e : HistoryEvent = record { call = c; answer = j } in
    lacks n e (record {
      call = w.first ∷ w.rest;
      answer = s.first ∷ s.rest;
      parts = refl;
      asked = w.asked;
      said = s.said;
      asks = asks_there (word_at w.first) w.word w.rest w.asked w.named w.asks;
      says = s.says;
      is_call = is_c;
      is_answer = is_j;
    })
  where
    asks_there : (o : Option CallWord) (k : CallWord) (ws : List (List ℕ)) (a : TranscriptCall) → o ≡ Some k
        → AsksBy k ws a
        → IsSomeAnd o (λ q. AsksBy q ws a)
    asks_there None k ws a e h = absurd (let gone : None ≡ Some k = e in cc)
    asks_there (Some q) k ws a e h = let is : q ≡ k = cc in subst (λ (z : CallWord). AsksBy z ws a) (sym is) h

row_there : (ls : List (List ℕ)) (rs : List Request) (given : List RequestAnswer)
    (m : AreRows ls rs given) (i : ℕ)
    → i < length (rows ls rs given m)
    → ((n : NameTable) (e : HistoryEvent) → IsLineEvent n
    (words_in (slice_index_or (rows ls rs given m) i [])) e → ⊥) → ⊥
unfolding rows
row_there _ _ _ Last i lt lacks = omega arith
row_there _ _ _ (Row l r a ls rs given w s k more) zero lt lacks =
    event_there l r a w s (λ n e h. lacks n e
    (subst (λ (ws : List (List ℕ)). IsLineEvent n ws e) (sym (row_words l r a w s)) h))
row_there _ _ _ (Row l r a ls rs given w s k more) (suc i) lt lacks =
    row_there ls rs given more i (omega arith) lacks

-- The first two lines.

none_yet : (n : NameTable) (es : List HistoryEvent) → AreEvents n [] es → length es ≡ 0
none_yet n [] h = refl
none_yet n (e ∷ es) h = absurd h

at_first : (t : Transcript) → AreTranscript [] t → length t.events.items ≡ 0
at_first t h = by h.first h.others h.parts h.events
  where
    by : (first others : List (List ℕ)) → ◌≡◌ {A = List (List ℕ)} [] (first ++ others)
        → AreEvents (table_of t.names) others t.events.items
        → length t.events.items ≡ 0
    by [] others e k = none_yet (table_of t.names) t.events.items
        (subst (λ (q : List (List ℕ)). AreEvents (table_of t.names) q t.events.items) (sym e) k)
    by (a ∷ first) others e k = absurd (let gone : [] ≡ a ∷ (first ++ others) = e in cc)

one_event : (n : NameTable) (es : List HistoryEvent) → AreEvents n (codes "never heuristics" ∷ []) es
    → length es ≡ 0
one_event n [] h = refl
one_event n (e ∷ es) h = absurd (first_no_event n e h.0)

at_second : (t : Transcript) → AreTranscript (codes "never heuristics" ∷ []) t → length t.events.items ≡ 0
at_second t h = by h.first h.others h.parts h.events
  where
    by : (first others : List (List ℕ)) → codes "never heuristics" ∷ [] ≡ first ++ others
        → AreEvents (table_of t.names) others t.events.items → length t.events.items ≡ 0
    by [] others e k = one_event (table_of t.names) t.events.items
        (subst (λ (q : List (List ℕ)). AreEvents (table_of t.names) q t.events.items) (sym e) k)
    by (a ∷ []) others e k = none_yet (table_of t.names) t.events.items
        (subst (λ (q : List (List ℕ)). AreEvents (table_of t.names) q t.events.items)
        (sym (heads (codes "never heuristics") a [] others e).1) k)
    by (a ∷ b ∷ first) others e k =
        absurd (let gone : [] ≡ b ∷ (first ++ others) =
        (heads (codes "never heuristics") a [] (b ∷ (first ++ others)) e).1 in cc)

never_none : (q : Rules) → ruled q (words_in (codes "never heuristics")) ≡ None → ⊥
never_none q e = cc

lacks_none : (q : Rules) → ruled q (words_in (codes "lacks forced")) ≡ None → ⊥
lacks_none q e = cc

-- no line of these is bad
none_bad : (ls : List (List ℕ)) (rs : List Request) (given : List RequestAnswer) (m : AreRows ls rs given)
    (i : ℕ) (t : Transcript)
    → i < length (codes "never heuristics" ∷ codes "lacks forced" ∷ rows ls rs given m)
    → AreTranscript (take i (codes "never heuristics" ∷ codes "lacks forced" ∷ rows ls rs given m)) t
    → IsNoLine t (slice_index_or (codes "never heuristics" ∷ codes "lacks forced" ∷ rows ls rs given m) i [])
    → ⊥
none_bad ls rs given m zero t lt before bad = never_none t.rules (bad.header (at_first t before))
none_bad ls rs given m (suc zero) t lt before bad = lacks_none t.rules (bad.header (at_second t before))
none_bad ls rs given m (suc (suc i)) t lt before bad = row_there ls rs given m i (omega arith) bad.event

pub no_bad_line : (input report : List ℕ) (rs : List Request) (given : List RequestAnswer) (number : ℕ)
    → IsXaScript input rs
    → report ≡ report_text given → length given ≡ length rs → AreReadable given
    → IsBadLine (transcript input report) number → ⊥
no_bad_line input report rs given number s is long k h =
    let heap : Global = vec_allocator h.front.events in
    let ls = call_lines (lines input) in
    let m = are_rows heap ls rs given s.calls k long (calls_kept (lines input)) in
    let made = made_lines heap input report rs given s is long k in
    let b : IsFirstBadLine (codes "never heuristics" ∷ codes "lacks forced" ∷ rows ls rs given m) number =
    subst (λ (q : List (List ℕ)). IsFirstBadLine q number) made h in
    none_bad ls rs given m b.index b.front b.within b.before b.bad
