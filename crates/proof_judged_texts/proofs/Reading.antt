-- The judge reads a script with its report as the requests with their answers.
use Rattle.std.proofs.Common.{◌≡◌, ◌≢◌, ℕ, suc, ◌+◌, ◌<◌, Bool, true, false, not, cond, List, [], ◌∷◌, ◌++◌, length, Option, Some, None, refl, sym, ap, ◌∙◌, subst, arith, append_assoc, codes}
use Rattle.std.specs.Prelude.{◌||◌, ◌==◌}
use Rattle.std.specs.Cmp.Lexicographic.{bytes_decides}
use Rattle.std.specs.Global.{Global}
use Rattle.std.specs.Vec.{vec_allocator}
use Rattle.std.specs.List.{AllByRecursion, flat_map}
use Rattle.std.specs.Str.Lines.{lines}
use Rattle.std.proofs.lemmas.Bool.Decides.{nat_tests}
use Rattle.std.proofs.lemmas.List.{length-append}
use Rattle.script_words.specs.Lines.{is_skipped}
use Rattle.script_words.specs.Steps.{◌>>=◌, same}
use Rattle.judge_rules.specs.declared.calls.HistoryEvent.{HistoryEvent}
use Rattle.judge_rules.specs.declared.words.Rules.{Rules}
use Rattle.judge_script.specs.declared.asking.CallWord.{CallWord}
use Rattle.judge_script.specs.declared.reading.Transcript.{Transcript}
use Rattle.judge_script.specs.Askings.{word_at}
use Rattle.judge_script.specs.Headers.{no_rules, ruled}
use Rattle.judge_script.specs.Numbers.{AreApartNames, IsLineEvent, IsPlace, NameTable, table_of}
use Rattle.judge_script.specs.Transcripts.{AreEvents, AreTranscript, IsTranscript, kept_lines, ruled_by}
use Rattle.judge_script.specs.Words.{is_blank, words_in}
use Rattle.xa_engine.specs.declared.script.request.Request.{Request}
use Rattle.xa_engine.specs.declared.answer.RequestAnswer.{RequestAnswer}
use Rattle.xa_engine.specs.Answers.{answer_text}
use Rattle.xa_engine.specs.Runs.{report_text}
use Rattle.xa_engine.specs.script.Scripts.{IsXaScript, SpellEach, call_lines}
use Rattle.proof_judged_deeds.specs.Names.{NameNumbers, lacks_forced}
use Rattle.proof_judged_runs.specs.Events.{AreRequests}
use Rattle.proof_judged_texts.specs.Texts.{IsReadAs, joined, transcript, transcript_lines}
use Rattle.proof_judged_texts.proofs.Words.{AreLines, AreWords, IsLine, line_of, line_words, lines_again, lines_join, text_of, word_is, word_line, words_again, words_append}
use Rattle.proof_judged_texts.proofs.Numbers.{number_by, number_one, number_place, word_key, word_key_one, xid_key, xid_key_one}
use Rattle.proof_judged_texts.proofs.Requests.{IsWorded, worded}
use Rattle.proof_judged_texts.proofs.Answers.{AreReadable, IsSpoken, spoken}
use Rattle.proof_judged_texts.proofs.Events.{Keeps, heads, line_event, words_with}

-- One line.

abbrev pub answer_line : {a : RequestAnswer} → IsSpoken a → List ℕ
answer_line s = line_of (s.first ∷ s.rest)

all_words : {l : List ℕ} {r : Request} {a : RequestAnswer} (w : IsWorded l r) (s : IsSpoken a)
    → AreWords (words_with w s)
all_words w s = words_append (w.first ∷ w.rest) (codes "->" ∷ (s.first ∷ s.rest)) w.words
    (word_is (codes "->") refl, s.words)

row_line : (l : List ℕ) (r : Request) (a : RequestAnswer) (w : IsWorded l r) (s : IsSpoken a)
    → l ++ codes " -> " ++ answer_line s ≡ line_of (words_with w s)
row_line l r a w s =
    append_assoc l (codes " -> ") (line_of (s.first ∷ s.rest))
    ∙ ap (λ (t : List ℕ). t ++ (codes " -> " ++ line_of (s.first ∷ s.rest))) w.line
    ∙ sym (lines_join w.first w.rest (codes "->") (s.first ∷ s.rest))

pub row_words : (l : List ℕ) (r : Request) (a : RequestAnswer) (w : IsWorded l r) (s : IsSpoken a)
    → words_in (l ++ codes " -> " ++ answer_line s) ≡ words_with w s
row_words l r a w s = ap words_in (row_line l r a w s)
    ∙ words_again w.first (w.rest ++ codes "->" ∷ (s.first ∷ s.rest)) (all_words w s)

row_printed : (l : List ℕ) (r : Request) (a : RequestAnswer) (w : IsWorded l r) (s : IsSpoken a)
    → IsLine (l ++ codes " -> " ++ answer_line s)
row_printed l r a w s = subst (λ (t : List ℕ). IsLine t) (sym (row_line l r a w s))
    (line_words (words_with w s) (all_words w s))

or_false : (a b : Bool) → a ≡ false → b ≡ false → (a || b) ≡ false
or_false a b e f = rw (e, f) refl

or_right : (a b : Bool) → (a || b) ≡ false → b ≡ false
or_right true b e = absurd (let gone : true ≡ false = e in cc)
or_right false b e = e

not_zero : (n : ℕ) → (suc n == 0) ≡ false
not_zero n = grind (arith, nat_tests)

skip_more : (l more : List ℕ) → is_skipped l ≡ false → is_skipped (l ++ more) ≡ false
skip_more [] more e = absurd (let gone : true ≡ false = e in cc)
skip_more (c ∷ cs) more e =
    or_false (length (c ∷ (cs ++ more)) == 0) (c == 35) (not_zero (length (cs ++ more)))
    (or_right (length (c ∷ cs) == 0) (c == 35) e)

long_words : (l : List ℕ) (r : Request) (a : RequestAnswer) (w : IsWorded l r) (s : IsSpoken a) (v : List ℕ)
    → words_with w s ≡ v ∷ [] → ⊥
long_words l r a w s v e =
    let rest : w.rest ++ codes "->" ∷ (s.first ∷ s.rest) ≡ [] =
    (heads w.first v (w.rest ++ codes "->" ∷ (s.first ∷ s.rest)) [] e).1 in
    let long : length (w.rest ++ codes "->" ∷ (s.first ∷ s.rest)) ≡ 0 = ap length rest in
    omega (arith, length-append w.rest (codes "->" ∷ (s.first ∷ s.rest)))

not_end : (l : List ℕ) (r : Request) (a : RequestAnswer) (w : IsWorded l r) (s : IsSpoken a) (b : Bool)
    → b ≡ same (l ++ codes " -> " ++ answer_line s) (codes "end") → b ≡ false
not_end l r a w s false e = refl
not_end l r a w s true e =
    let is : l ++ codes " -> " ++ answer_line s ≡ codes "end" = (bytes_decides _ (codes "end")).0 (sym e) in
    absurd (long_words l r a w s (codes "end") (sym (row_words l r a w s) ∙ ap words_in is))

row_kept : (l : List ℕ) (r : Request) (a : RequestAnswer) (w : IsWorded l r) (s : IsSpoken a)
    → is_skipped l ≡ false
    → is_blank (l ++ codes " -> " ++ answer_line s) ≡ false
row_kept l r a w s e =
    or_false (is_skipped (l ++ codes " -> " ++ answer_line s))
    (same (l ++ codes " -> " ++ answer_line s) (codes "end"))
    (ap is_skipped (append_assoc l (codes " -> ") (answer_line s))
    ∙ skip_more l (codes " -> " ++ answer_line s) e)
    (not_end l r a w s (same (l ++ codes " -> " ++ answer_line s) (codes "end")) refl)

-- a line whose first word asks for a call says nothing of the manager
said_nothing : (f : List ℕ) (k : CallWord) (b : Bool) (v : List ℕ) → word_at f ≡ Some k → b ≡ same f v
    → word_at v ≡ None → b ≡ false
said_nothing f k false v e is none = refl
said_nothing f k true v e is none =
    let at : f ≡ v = (bytes_decides f v).0 (sym is) in
    absurd (let gone : None ≡ Some k = sym none ∙ ap word_at (sym at) ∙ e in cc)

not_ruled : (q : Rules) (f : List ℕ) (ws : List (List ℕ)) (k : CallWord) → word_at f ≡ Some k
    → ruled q (f ∷ ws) ≡ None
not_ruled q f ws k e = rw (
  said_nothing f k (same f (codes "never")) (codes "never") e refl refl,
  said_nothing f k (same f (codes "lacks")) (codes "lacks") e refl refl,
) refl

row_unruled : (q : Rules) (l : List ℕ) (r : Request) (a : RequestAnswer) (w : IsWorded l r) (s : IsSpoken a)
    → ruled q (words_in (l ++ codes " -> " ++ answer_line s)) ≡ None
row_unruled q l r a w s = ap (ruled q) (row_words l r a w s)
    ∙ not_ruled q w.first (w.rest ++ codes "->" ∷ (s.first ∷ s.rest)) w.word w.named

-- The lines of the report.

answer_lines : Global → (answers : List RequestAnswer) → AreReadable answers → List (List ℕ)
answer_lines heap [] h = []
answer_lines heap (a ∷ answers) h = answer_line (spoken heap a h.0) ∷ answer_lines heap answers h.1

answers_printed : (heap : Global) (answers : List RequestAnswer) (h : AreReadable answers)
    → AreLines (answer_lines heap answers h ++ codes "end" ∷ [])
unfolding answer_lines
answers_printed heap [] h = (word_line (codes "end") (word_is (codes "end") refl), tt)
answers_printed heap (a ∷ answers) h =
    let s = spoken heap a h.0 in (line_words (s.first ∷ s.rest) s.words, answers_printed heap answers h.1)

report_is : (heap : Global) (answers : List RequestAnswer) (h : AreReadable answers)
    → report_text answers ≡ text_of (answer_lines heap answers h ++ codes "end" ∷ [])
unfolding answer_lines
report_is heap [] h = refl
report_is heap (a ∷ answers) h =
    let s = spoken heap a h.0 in
    append_assoc (answer_text a ++ flat_map answer_text answers) (codes "end") (10 ∷ [])
    ∙ append_assoc (answer_text a) (flat_map answer_text answers) (codes "end" ++ 10 ∷ [])
    ∙ ap (λ (t : List ℕ). answer_text a ++ t)
    (sym (append_assoc (flat_map answer_text answers) (codes "end") (10 ∷ [])))
    ∙ ap (λ (t : List ℕ). answer_text a ++ t) (report_is heap answers h.1)
    ∙ ap (λ (t : List ℕ). t ++ text_of (answer_lines heap answers h.1 ++ codes "end" ∷ [])) s.text

report_lines : (heap : Global) (answers : List RequestAnswer) (h : AreReadable answers)
    → lines (report_text answers) ≡ answer_lines heap answers h ++ codes "end" ∷ []
report_lines heap answers h =
    ap lines (report_is heap answers h) ∙ lines_again (answer_lines heap answers h ++ codes "end" ∷ [])
    (answers_printed heap answers h)

-- The calls of the script.

abbrev AreKept : List (List ℕ) → Type 0
AreKept ls = AllByRecursion (λ l. is_skipped l ≡ false) ls

kept_step : (b : Bool) (l : List ℕ) (ls : List (List ℕ)) → is_skipped l ≡ b → AreKept ls
    → AreKept (cond (not b) (l ∷ ls) ls)
kept_step true l ls e h = h
kept_step false l ls e h = (e, h)

pub calls_kept : (ls : List (List ℕ)) → AreKept (call_lines ls)
calls_kept [] = tt
calls_kept (l ∷ ls) = kept_step (is_skipped l) l (call_lines ls) refl (calls_kept ls)

-- The rows: the calls with their answers.

-- each of these lines is that of a request with its answer
pub data AreRows : List (List ℕ) → List Request → List RequestAnswer → Type 0 where
  Last : AreRows [] [] []
  Row : (l : List ℕ) (r : Request) (a : RequestAnswer) (ls : List (List ℕ)) (rs : List Request)
      (given : List RequestAnswer)
      → IsWorded l r → IsSpoken a → is_skipped l ≡ false → AreRows ls rs given
      → AreRows (l ∷ ls) (r ∷ rs) (a ∷ given)

unfoldable pub rows : (ls : List (List ℕ)) (rs : List Request) (given : List RequestAnswer)
    → AreRows ls rs given → List (List ℕ)
rows _ _ _ Last = []
rows _ _ _ (Row l r a ls rs given w s e more) = (l ++ codes " -> " ++ answer_line s) ∷ rows ls rs given more

pub are_rows : (heap : Global) (ls : List (List ℕ)) (rs : List Request) (given : List RequestAnswer)
    → SpellEach ls rs → AreReadable given
    → length given ≡ length rs → AreKept ls → AreRows ls rs given
are_rows heap [] [] [] h k long kept = Last
are_rows heap [] [] (a ∷ given) h k long kept = absurd (omega arith)
are_rows heap [] (r ∷ rs) given h k long kept = absurd h
are_rows heap (l ∷ ls) [] given h k long kept = absurd h
are_rows heap (l ∷ ls) (r ∷ rs) [] h k long kept = absurd (omega arith)
are_rows heap (l ∷ ls) (r ∷ rs) (a ∷ given) h k long kept =
    Row l r a ls rs given (worded l r h.0) (spoken heap a k.0) kept.0
    (are_rows heap ls rs given h.1 k.1 (omega arith) kept.1)

rows_joined : (heap : Global) (ls : List (List ℕ)) (rs : List Request) (given : List RequestAnswer)
    (h : SpellEach ls rs)
    (k : AreReadable given) (long : length given ≡ length rs) (kept : AreKept ls) (end : List (List ℕ))
    → joined ls (answer_lines heap given k ++ end) ≡ rows ls rs given
    (are_rows heap ls rs given h k long kept)
unfolding answer_lines are_rows rows
rows_joined heap [] [] [] h k long kept end = refl
rows_joined heap [] [] (a ∷ given) h k long kept end = absurd (omega arith)
rows_joined heap [] (r ∷ rs) given h k long kept end = absurd h
rows_joined heap (l ∷ ls) [] given h k long kept end = absurd h
rows_joined heap (l ∷ ls) (r ∷ rs) [] h k long kept end = absurd (omega arith)
rows_joined heap (l ∷ ls) (r ∷ rs) (a ∷ given) h k long kept end =
    ap (λ (q : List (List ℕ)). (l ++ codes " -> " ++ answer_line (spoken heap a k.0)) ∷ q)
    (rows_joined heap ls rs given h.1 k.1 (omega arith) kept.1 end)

pub rows_printed : (ls : List (List ℕ)) (rs : List Request) (given : List RequestAnswer)
    (m : AreRows ls rs given) → AreLines (rows ls rs given m)
unfolding rows
rows_printed _ _ _ Last = tt
rows_printed _ _ _ (Row l r a ls rs given w s e more) = (row_printed l r a w s, rows_printed ls rs given more)

abbrev AreKeptLines : List (List ℕ) → Type 0
AreKeptLines ls = AllByRecursion (λ l. is_blank l ≡ false) ls

rows_kept : (ls : List (List ℕ)) (rs : List Request) (given : List RequestAnswer) (m : AreRows ls rs given)
    → AreKeptLines (rows ls rs given m)
unfolding rows
rows_kept _ _ _ Last = tt
rows_kept _ _ _ (Row l r a ls rs given w s e more) = (row_kept l r a w s e, rows_kept ls rs given more)

kept_all : (ls : List (List ℕ)) → AreKeptLines ls → kept_lines ls ≡ ls
kept_all [] h = refl
kept_all (l ∷ ls) h = rw h.0 (ap (λ (q : List (List ℕ)). l ∷ q) (kept_all ls h.1))

pub rows_events : (n : NameNumbers) (t : NameTable) → Keeps n t
    → (ls : List (List ℕ)) (rs : List Request) (given : List RequestAnswer)
    (m : AreRows ls rs given) (es : List HistoryEvent) → AreEvents t (rows ls rs given m) es
    → AreRequests n rs given es
unfolding rows
rows_events n t keep _ _ _ Last [] h = tt
rows_events n t keep _ _ _ Last (e ∷ es) h = absurd h
rows_events n t keep _ _ _ (Row l r a ls rs given w s e more) [] h = absurd h
rows_events n t keep _ _ _ (Row l r a ls rs given w s k more) (e ∷ es) h =
    let event : IsLineEvent t (words_with w s) e = subst (λ (ws : List (List ℕ)). IsLineEvent t ws e)
    (row_words l r a w s) h.0 in
    (line_event n t keep l r a w s e event, rows_events n t keep ls rs given more es h.1)

-- no row is among the first lines
abbrev IsUnruled : List ℕ → Type 0
IsUnruled l = (q : Rules) → ruled q (words_in l) ≡ None

rows_unruled : (ls : List (List ℕ)) (rs : List Request) (given : List RequestAnswer) (m : AreRows ls rs given)
    → AllByRecursion IsUnruled (rows ls rs given m)
unfolding rows
rows_unruled _ _ _ Last = tt
rows_unruled _ _ _ (Row l r a ls rs given w s k more) =
    (λ q. row_unruled q l r a w s, rows_unruled ls rs given more)

-- The first lines.

no_event : (t : NameTable) (x y : List ℕ) (e : HistoryEvent) → x ≢ codes "->" → y ≢ codes "->"
    → IsLineEvent t (x ∷ y ∷ []) e → ⊥
no_event t x y e no_x no_y h = none h.call h.answer h.parts
  where
    none : (calls later : List (List ℕ)) → x ∷ y ∷ [] ≡ calls ++ codes "->" ∷ later → ⊥
    none [] later e = no_x (heads x (codes "->") (y ∷ []) later e).0
    none (a ∷ []) later e = no_y (heads y (codes "->") [] later
        (heads x a (y ∷ []) (codes "->" ∷ later) e).1).0
    none (a ∷ b ∷ []) later e =
        let gone : [] ≡ codes "->" ∷ later = (heads y b [] (codes "->" ∷ later)
        (heads x a (y ∷ []) (b ∷ codes "->" ∷ later) e).1).1 in
        cc
    none (a ∷ b ∷ c ∷ more) later e =
        let gone : [] ≡ c ∷ (more ++ codes "->" ∷ later) =
        (heads y b [] (c ∷ (more ++ codes "->" ∷ later))
        (heads x a (y ∷ []) (b ∷ c ∷ (more ++ codes "->" ∷ later)) e).1).1 in
        cc

differ : (w v : List ℕ) → same w v ≡ false → w ≢ v
differ w v e is = let gone : false ≡ true = sym e ∙ (bytes_decides w v).1 is in cc

pub first_no_event : (t : NameTable) (e : HistoryEvent)
    → IsLineEvent t (words_in (codes "never heuristics")) e → ⊥
first_no_event t e h = no_event t (codes "never") (codes "heuristics") e
    (differ (codes "never") (codes "->") refl)
    (differ (codes "heuristics") (codes "->") refl) h

second_no_event : (t : NameTable) (e : HistoryEvent) → IsLineEvent t (words_in (codes "lacks forced")) e → ⊥
second_no_event t e h = no_event t (codes "lacks") (codes "forced") e
    (differ (codes "lacks") (codes "->") refl)
    (differ (codes "forced") (codes "->") refl) h

no_events : (t : NameTable) (l : List ℕ) (others ls : List (List ℕ)) (es : List HistoryEvent)
    → ((e : HistoryEvent) → IsLineEvent t (words_in l) e → ⊥)
    → others ≡ l ∷ ls → AreEvents t others es → ⊥
no_events t l [] ls es none is h = let gone : [] ≡ l ∷ ls = is in cc
no_events t l (x ∷ others) ls [] none is h = h
no_events t l (x ∷ others) ls (e ∷ es) none is h =
    none e (subst (λ (q : List ℕ). IsLineEvent t (words_in q) e) (heads x l others ls is).0 h.0)

-- the rules after the first two lines
rules_two : ruled_by no_rules (codes "never heuristics" ∷ codes "lacks forced" ∷ []) ≡ Some lacks_forced
rules_two = refl

some_one : {A : Type 0} (x y : A) → Some x ≡ Some y → x ≡ y
some_one x y e = cc

bind_none : {A B : Type 0} (o : Option A) (f : A → Option B) (y : B) → o ≡ None → (o >>= f) ≡ Some y → ⊥
bind_none o f y e k = let gone : None ≡ Some y = rw e at k in cc

pub record IsSplit (first others parts : List (List ℕ)) (q : Rules) : Type 0 where
  pub rules : q ≡ lacks_forced
  pub left : others ≡ parts

split : (t : NameTable) (parts first others : List (List ℕ)) (es : List HistoryEvent) (q : Rules)
    → AllByRecursion IsUnruled parts
    → codes "never heuristics" ∷ codes "lacks forced" ∷ parts ≡ first ++ others
    → ruled_by no_rules first ≡ Some q
    → AreEvents t others es → IsSplit first others parts q
split t parts [] others es q un e rules h =
    absurd (no_events t (codes "never heuristics") others (codes "lacks forced" ∷ parts) es
    (first_no_event t) (sym e) h)
split t parts (a ∷ []) others es q un e rules h =
    let rest = (heads (codes "never heuristics") a (codes "lacks forced" ∷ parts) others e).1 in
    absurd (no_events t (codes "lacks forced") others parts es (second_no_event t) (sym rest) h)
split t parts (a ∷ b ∷ []) others es q un e rules h =
    let (one, rest) = heads (codes "never heuristics") a (codes "lacks forced" ∷ parts) (b ∷ others) e in
    let (two, more) = heads (codes "lacks forced") b parts others rest in
    let at : ruled_by no_rules (a ∷ b ∷ []) ≡ Some lacks_forced =
    ap (λ (x : List ℕ). ruled_by no_rules (x ∷ b ∷ [])) (sym one)
    ∙ ap (λ (x : List ℕ). ruled_by no_rules (codes "never heuristics" ∷ x ∷ [])) (sym two) ∙ rules_two in
    record { rules = some_one q lacks_forced (sym rules ∙ at); left = sym more }
split t [] (a ∷ b ∷ c ∷ more) others es q un e rules h =
    let (one, rest) = heads (codes "never heuristics") a (codes "lacks forced" ∷ [])
    (b ∷ c ∷ (more ++ others)) e in
    let gone : [] ≡ c ∷ (more ++ others) = (heads (codes "lacks forced") b [] (c ∷ (more ++ others)) rest).1
    in
    absurd (let none : ⊥ = cc in none)
split t (p ∷ parts) (a ∷ b ∷ c ∷ more) others es q un e rules h =
    let (one, rest) = heads (codes "never heuristics") a (codes "lacks forced" ∷ p ∷ parts)
    (b ∷ c ∷ (more ++ others)) e in
    let (two, tail) = heads (codes "lacks forced") b (p ∷ parts) (c ∷ (more ++ others)) rest in
    let three : p ≡ c = (heads p c parts (more ++ others) tail).0 in
    let at : ruled_by no_rules (codes "never heuristics" ∷ codes "lacks forced" ∷ p ∷ more) ≡ Some q =
    ap (λ (x : List ℕ). ruled_by no_rules (x ∷ codes "lacks forced" ∷ p ∷ more)) one
    ∙ ap (λ (x : List ℕ). ruled_by no_rules (a ∷ x ∷ p ∷ more)) two
    ∙ ap (λ (x : List ℕ). ruled_by no_rules (a ∷ b ∷ x ∷ more)) three ∙ rules in
    absurd (bind_none (ruled lacks_forced (words_in p)) (λ r. ruled_by r more) q (un.0 lacks_forced) at)

-- Numbers for all names.

numbers_of : (t : NameTable) → AreApartNames t.words → IsPlace t.words 0 (codes "none") → NameNumbers
numbers_of t apart none = record {
  xid = number_by xid_key t.xids;
  word = number_by word_key t.words;
  xids_apart = number_one xid_key xid_key_one t.xids;
  words_apart = number_one word_key word_key_one t.words;
  none = number_place word_key word_key_one t.words 0 (codes "none") apart none;
}

keeps : (t : NameTable) (xids : AreApartNames t.xids) (words : AreApartNames t.words)
    (none : IsPlace t.words 0 (codes "none"))
    → Keeps (numbers_of t words none) t
unfolding numbers_of
keeps t xids words none = record {
  xid = λ k x at. number_place xid_key xid_key_one t.xids k x xids at;
  word = λ k w at. number_place word_key word_key_one t.words k w words at;
}

-- The transcript.

made_kept : (parts : List (List ℕ)) → AreKeptLines parts
    → AreKeptLines (codes "never heuristics" ∷ codes "lacks forced" ∷ parts)
made_kept parts h = (refl, (refl, h))

made_printed : (parts : List (List ℕ)) → AreLines parts
    → AreLines (codes "never heuristics" ∷ codes "lacks forced" ∷ parts)
made_printed parts h = (
  line_words (codes "never" ∷ codes "heuristics" ∷ [])
      (word_is (codes "never") refl, (word_is (codes "heuristics") refl, tt)),
  (
    line_words (codes "lacks" ∷ codes "forced" ∷ [])
        (word_is (codes "lacks") refl, (word_is (codes "forced") refl, tt)),
    h,
  ),
)

-- a transcript of these rows is read as their requests with their answers
rows_read : (ls : List (List ℕ)) (rs : List Request) (given : List RequestAnswer) (m : AreRows ls rs given)
    (t : Transcript)
    → AreTranscript (codes "never heuristics" ∷ codes "lacks forced" ∷ rows ls rs given m) t
    → IsReadAs rs given t
rows_read ls rs given m t h =
    let parts = rows ls rs given m in
    let kept = kept_all (codes "never heuristics" ∷ codes "lacks forced" ∷ parts)
    (made_kept parts (rows_kept ls rs given m)) in
    let s = split (table_of t.names) parts h.first h.others t.events.items t.rules
    (rows_unruled ls rs given m)
    (sym kept ∙ h.parts) h.rules h.events in
    let events : AreEvents (table_of t.names) parts t.events.items =
    subst (λ (q : List (List ℕ)). AreEvents (table_of t.names) q t.events.items) s.left h.events in
    record {
      rules = s.rules;
      numbers = numbers_of (table_of t.names) h.apart_words h.no_value;
      events = rows_events (numbers_of (table_of t.names) h.apart_words h.no_value) (table_of t.names)
          (keeps (table_of t.names) h.apart_xids h.apart_words h.no_value) ls rs given m
          t.events.items events;
    }

-- the lines of the transcript
pub made_lines : (heap : Global) (input report : List ℕ) (rs : List Request) (given : List RequestAnswer)
    → (s : IsXaScript input rs)
    → report ≡ report_text given → (long : length given ≡ length rs) → (k : AreReadable given)
    → lines (transcript input report) ≡ codes "never heuristics" ∷ codes "lacks forced"
    ∷ rows (call_lines (lines input)) rs given
    (are_rows heap (call_lines (lines input)) rs given s.calls k long (calls_kept (lines input)))
made_lines heap input report rs given s is long k =
    let ls = call_lines (lines input) in
    let m = are_rows heap ls rs given s.calls k long (calls_kept (lines input)) in
    let whole : transcript_lines input report ≡ codes "never heuristics" ∷ codes "lacks forced"
    ∷ rows ls rs given m =
    ap (λ (q : List (List ℕ)). codes "never heuristics" ∷ codes "lacks forced" ∷ joined ls q)
    (ap lines is ∙ report_lines heap given k)
    ∙ ap (λ (q : List (List ℕ)). codes "never heuristics" ∷ codes "lacks forced" ∷ q)
    (rows_joined heap ls rs given s.calls k long (calls_kept (lines input)) (codes "end" ∷ [])) in
    ap (λ (q : List (List ℕ)). lines (text_of q)) whole
    ∙ lines_again (codes "never heuristics" ∷ codes "lacks forced" ∷ rows ls rs given m)
    (made_printed (rows ls rs given m) (rows_printed ls rs given m))

pub transcript_read : (input report : List ℕ) (rs : List Request) (given : List RequestAnswer)
    (t : Transcript) → IsXaScript input rs
    → report ≡ report_text given → length given ≡ length rs → AreReadable given
    → IsTranscript (transcript input report) t
    → IsReadAs rs given t
transcript_read input report rs given t s is long k h =
    let heap : Global = vec_allocator t.events in
    let ls = call_lines (lines input) in
    rows_read ls rs given (are_rows heap ls rs given s.calls k long (calls_kept (lines input))) t
    (subst (λ (q : List (List ℕ)). AreTranscript q t) (made_lines heap input report rs given s is long k) h)
