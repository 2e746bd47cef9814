-- What a new manager answers to a script can be read: it names branches and gives values that the script
-- named before.
use Rattle.std.proofs.Common.{◌≡◌, ℕ, ◌-◌, ◌<◌, ◌≤◌, ◌^◌, not, Bool, true, false, cond, List, [], ◌∷◌, length, map, take, Option, Some, None, Result, Ok, Err, refl, sym, ap, ◌∙◌, subst, codes, arith, inl, inr}
use Rattle.std.specs.Prelude.{MatchResult}
use Rattle.std.specs.Global.{Global}
use Rattle.std.specs.List.{AllByRecursion}
use Rattle.std.specs.Str.Lines.{lines}
use Rattle.std.proofs.lemmas.Bool.{cases_Bool}
use Rattle.std.proofs.lemmas.List.{length-take}
use Rattle.std.proofs.lemmas.List.Sums.{length-filter}
use Rattle.script_words.specs.Lines.{asked_in, is_skipped}
use Rattle.script_words.specs.Operations.{delete_at, get_at, is_visible_word, key_at, op_by, put_at, value_at}
use Rattle.script_words.specs.Outcomes.{outcome_at}
use Rattle.script_words.specs.Steps.{◌>>=◌, same}
use Rattle.spellings.specs.Words.{cut_at}
use Rattle.xa_codes.specs.FlagNames.{IsFlagText}
use Rattle.xa_codes.specs.declared.code.Code.{Code as AnyCode}
use Rattle.xa_tables.specs.declared.call.Call.{Call as TableCall}
use Rattle.xa_words.specs.verb
use Rattle.xa_tables.specs.declared.states.InitState.{InitState}
use Rattle.xa_tables.specs.declared.states.InitState.TheVariants.{R0, R1}
use Rattle.xa_tables.specs.Calls.{legal}
use Rattle.xa_xid.specs.Xids.{IsXid}
use Rattle.xa_xid.specs.declared.xid.Xid.{Xid}
use Rattle.xa_branch.specs.Branches.{scanned}
use Rattle.xa_assoc.specs.declared.states.States.{States}
use Rattle.xa_assoc.specs.Answers.{Recovers, SameStates, Scanned}
use Rattle.protocol.specs.declared.messages.Op.{Op}
use Rattle.protocol.specs.declared.messages.Op.TheVariants.{Put, Get, Delete}
use Rattle.judge_state.specs.Sights.{Sight, first_sight}
use Rattle.judge_rules.specs.declared.calls.JudgedAnswer.{JudgedAnswer}
use Rattle.judge_rules.specs.declared.calls.JudgedAnswer.TheVariants as judged
use Rattle.judge_rules.specs.declared.calls.JudgedCall.{JudgedCall}
use Rattle.judge_rules.specs.declared.calls.HistoryEvent.{HistoryEvent}
use Rattle.judge_rules.specs.Histories.{IsLegal, JudgeLeads}
use Rattle.judge_rules.specs.Steps.{next}
use Rattle.kv_manager.specs.Sights.{KvSight}
use Rattle.xa_engine.specs.declared.script.request.RequestCall.{RequestCall}
use Rattle.xa_engine.specs.declared.script.request.RequestCall.TheVariants as call
use Rattle.xa_engine.specs.declared.script.request.RequestWord.{RequestWord}
use Rattle.xa_engine.specs.declared.script.request.RequestWord.TheVariants as asking
use Rattle.xa_engine.specs.declared.script.request.Request.{Request}
use Rattle.xa_engine.specs.declared.script.request.Request.TheVariants.{Open, Close, Branch, Recover, Work, Restart, Trim, Decide}
use Rattle.xa_engine.specs.declared.answer.RequestAnswer.{RequestAnswer}
use Rattle.xa_engine.specs.declared.answer.RequestAnswer.TheVariants as answer
use Rattle.xa_engine.specs.Makes.{RequestMakes, RequestScans}
use Rattle.xa_engine.specs.Runs.{IsFreshManager, RequestsLead}
use Rattle.xa_engine.specs.script.Requests.{IsName, IsNumber, SpellsRequest, SpellsBy, SpellsCall, SpellsCut, SpellsTask, alone_by, three_at, word_at}
use Rattle.xa_engine.specs.script.Scripts.{IsXaScript, SpellEach, call_lines}
use Rattle.proof_judged_deeds.specs.Deeds.{GivesBranches}
use Rattle.proof_judged_deeds.specs.Names.{NameNumbers, lacks_forced, value_number}
use Rattle.proof_judged_deeds.proofs.Giving.{length_map}
use Rattle.proof_judged_runs.specs.Events.{AreRequests, IsRequestEvent, SaysNumbered, call_of}
use Rattle.proof_judged_runs.proofs.Histories.{runs_legal}
use Rattle.proof_judged_texts.proofs.Answers.{AreReadable, IsReadable, vec_items_of, vec_of}
use Rattle.proof_judged_texts.proofs.Naming.{Came, IsNamed, Names, Tells, next_named, next_told}
use Rattle.proof_judged_texts.proofs.Numbers.{number_by, number_one, word_key, word_key_one, xid_key, xid_key_one}
use Rattle.proof_judged_texts.proofs.Requests.{bind_some, some_and, visible_by}

-- a run has as many answers as requests
pub answered : (m k : KvSight) (rs : List Request) (given : List RequestAnswer) → RequestsLead m rs given k
    → length given ≡ length rs
answered m k [] [] h = refl
answered m k [] (a ∷ given) h = absurd h
answered m k (r ∷ rs) [] h = absurd h
answered m k (r ∷ rs) (a ∷ given) h = let rest = answered h.0 k rs given h.3 in omega arith

spelled_many : (ls : List (List ℕ)) (rs : List Request) → SpellEach ls rs → length rs ≡ length ls
spelled_many [] [] h = refl
spelled_many [] (r ∷ rs) h = absurd h
spelled_many (l ∷ ls) [] h = absurd h
spelled_many (l ∷ ls) (r ∷ rs) h = let rest = spelled_many ls rs h.1 in omega arith

-- and a script has few
pub few : (input : List ℕ) (rs : List Request) → IsXaScript input rs → length rs < 2 ^ 63 - 1
unfolding asked_in
few input rs s =
    let many : length rs ≡ length (call_lines (lines input)) =
    spelled_many (call_lines (lines input)) rs s.calls in
    let kept = length-filter (λ line. not (is_skipped line)) (lines input) in
    let short = s.short in
    omega (arith, many, kept, short)

-- What a script spells.

-- a request names an XID, asks for few branches, writes a value of visible bytes
abbrev IsSpelled : Request → Type 0
IsSpelled (Branch f t x flags) = IsXid x
IsSpelled (Recover t count flags) = count < 2 ^ 32
IsSpelled (Work t (Put k v)) = is_visible_word 256 v ≡ true
IsSpelled (Decide x o) = IsXid x
IsSpelled _ = Unit {0}

put_seen : (rest k v : List ℕ) → put_at rest ≡ Some (Put k v) → is_visible_word 256 v ≡ true
unfolding put_at
put_seen rest k v e =
    let (p, cut, e1) = bind_some (cut_at 32 rest)
    (λ p. key_at p.0 >>= λ key. value_at p.1 >>= λ value. Some (Put key value)) (Put k v) e in
    let (j, key, e2) = bind_some (key_at p.0)
    (λ key. value_at p.1 >>= λ value. Some (Put key value)) (Put k v) e1 in
    let (w, value, e3) = bind_some (value_at p.1) (λ value. Some (Put j value)) (Put k v) e2 in
    let (is, seen) = visible_by (is_visible_word 256 p.1) p.1 w value in
    let it : w ≡ v = (let s : Some (Put j w) ≡ Some (Put k v) = e3 in cc) in
    subst (λ (z : List ℕ). is_visible_word 256 z ≡ true) (is ∙ it) seen

op_seen : (b c d : Bool) (rest k v : List ℕ)
    → cond b (put_at rest) (cond c (get_at rest) (cond d (delete_at rest) None)) ≡ Some (Put k v)
    → is_visible_word 256 v ≡ true
op_seen true c d rest k v e = put_seen rest k v e
op_seen false true d rest k v e =
    let (j, found, is) = bind_some (key_at rest) (λ key. Some (Get key)) (Put k v) e in
    absurd (let s : Some (Get j) ≡ Some (Put k v) = is in cc)
op_seen false false true rest k v e =
    let (j, found, is) = bind_some (key_at rest) (λ key. Some (Delete key)) (Put k v) e in
    absurd (let s : Some (Delete j) ≡ Some (Put k v) = is in cc)
op_seen false false false rest k v e = absurd (let s : None ≡ Some (Put k v) = e in cc)

task_spelled : (f rest : List ℕ) (t : ℕ) (op : Op) → SpellsTask f rest t op → IsSpelled (Work t op)
task_spelled f rest t (Put k v) h =
    let (p, cut, (n, is)) = some_and (cut_at 32 rest) (λ p. IsNumber p.0 t × (op_by f p.1 ≡ Some (Put k v))) h
    in
    op_seen (same f (codes "put")) (same f (codes "get")) (same f (codes "del")) p.1 k v is
task_spelled f rest t (Get k) h = tt
task_spelled f rest t (Delete k) h = tt

call_spelled : (c : RequestCall) (rest : List ℕ) (r : Request) → SpellsCall c rest r → IsSpelled r
call_spelled c rest (Branch b t xid flags) (ec, h) =
    let (p, three, (n, m, k)) = some_and (three_at rest)
    (λ p. IsNumber p.0 t × IsName p.1 xid × IsFlagText p.2 flags.0) h in m.0
call_spelled c rest (Recover t count flags) (ec, h) =
    let (p, three, (n, m, k)) = some_and (three_at rest)
    (λ p. IsNumber p.0 t × IsNumber p.1 count × IsFlagText p.2 flags.0) h in m.1
call_spelled c rest (Decide xid o) (ec, h) =
    let (p, cut, (m, k)) = some_and (cut_at 32 rest) (λ p. IsName p.0 xid × (outcome_at p.1 ≡ Some o)) h
    in m.0
call_spelled c rest (Work t op) h = absurd h
call_spelled c rest r h = tt

by_spelled : (k : Option RequestWord) (f rest : List ℕ) (r : Request) → SpellsBy k f rest r → IsSpelled r
by_spelled None f rest r h = absurd h
by_spelled (Some (asking.Call c)) f rest r h = call_spelled c rest r h
by_spelled (Some asking.Work) f rest (Work t op) h = task_spelled f rest t op h
by_spelled (Some asking.Work) f rest r h = absurd h

alone_spelled : (k : Option RequestWord) (r : Request) → alone_by k ≡ Some r → IsSpelled r
alone_spelled (Some (asking.Call call.Restart)) r h =
    let it : Restart None ≡ r = (let s : Some (Restart None) ≡ Some r = h in cc) in subst IsSpelled it tt
alone_spelled (Some (asking.Call call.Trim)) r h =
    let it : Trim ≡ r = (let s : Some Trim ≡ Some r = h in cc) in subst IsSpelled it tt
alone_spelled k r h = absurd (let none : None ≡ Some r = h in cc)

cut_spelled : (l : List ℕ) (o : Option (List ℕ × List ℕ)) (r : Request) → SpellsCut l o r → IsSpelled r
cut_spelled l None r h = alone_spelled (word_at l) r h
cut_spelled l (Some p) r h = by_spelled (word_at p.0) p.0 p.1 r h

all_spelled : (ls : List (List ℕ)) (rs : List Request) → SpellEach ls rs → AllByRecursion IsSpelled rs
all_spelled [] [] h = tt
all_spelled [] (r ∷ rs) h = absurd h
all_spelled (l ∷ ls) [] h = absurd h
all_spelled (l ∷ ls) (r ∷ rs) h = (cut_spelled l (cut_at 32 l) r h.0, all_spelled ls rs h.1)

-- How many branches a recover gives.

none_given : {X : Type 0} (xs : List Xid) (c : AnyCode) → ◌≡◌ {A = Result (List Xid) AnyCode} (Ok xs) (Err c)
    → X
none_given xs c e = absurd cc

scanned_few : (a b : States) (t count : ℕ) (c : TableCall) (xs : List Xid) → Scanned a b t count c (Ok xs)
    → (i : InitState)
    → a.init ≡ i → length xs ≤ count
scanned_few a b t count c xs h R0 is = none_given xs _ (h.closed is).0
scanned_few a b t count c xs h R1 is =
    let made = (h.given is).0 in
    let long = ap length made.next in
    let cut = length-take count (scanned a.branches t c) in
    omega (arith, long, cut)

recovers_few : (a b : States) (t count : ℕ) (xs : List Xid) (q : Result TableCall AnyCode)
    → MatchResult q (λ c. Scanned a b t count c (Ok xs)) (λ refusal. (Ok xs ≡ Err refusal) × SameStates a b)
    → length xs ≤ count
recovers_few a b t count xs (Ok c) h = scanned_few a b t count c xs h a.init refl
recovers_few a b t count xs (Err e) h = none_given xs e h.0

scans_few : (old new : KvSight) (t count flags : ℕ) (xs : List Xid)
    → RequestScans old new t count flags (answer.Given xs)
    → length xs ≤ count
scans_few old new t count flags xs h = elim (cases_Bool old.log.sight.failed) [
  | inl failed ↦ none_given xs _ (h.failed failed).0
  | inr works ↦ recovers_few old.store.tables new.store.tables t count xs (legal verb.Recover flags)
      (h.works works).tables
]

-- an answer gives few branches
abbrev IsFew : RequestAnswer → Type 0
IsFew (answer.Given xs) = length xs < 2 ^ 63
IsFew _ = Unit {0}

given_few : (old new : KvSight) (r : Request) (a : RequestAnswer) → IsSpelled r → RequestMakes old new r a
    → IsFew a
given_few old new (Recover t count flags) (answer.Given xs) s h =
    let most = scans_few old new t count flags.0 xs h in omega arith
given_few old new (Open flags migrates) (answer.Given xs) s h = absurd h
given_few old new (Close flags) (answer.Given xs) s h = absurd h
given_few old new (Branch f t x flags) (answer.Given xs) s h = absurd h
given_few old new (Work t (Get k)) (answer.Given xs) s h = absurd h
given_few old new (Work t (Put k v)) (answer.Given xs) s h = absurd h
given_few old new (Work t (Delete k)) (answer.Given xs) s h = absurd h
given_few old new (Restart keep) (answer.Given xs) s h = absurd h
given_few old new Trim (answer.Given xs) s h = absurd h
given_few old new (Decide x o) (answer.Given xs) s h = absurd h
given_few old new r a s h = tt

-- Numbers for all names.

numbers : NameNumbers
numbers = record {
  xid = number_by xid_key [];
  word = number_by word_key (codes "none" ∷ []);
  xids_apart = number_one xid_key xid_key_one [];
  words_apart = number_one word_key word_key_one (codes "none" ∷ []);
  none = refl;
}

module _ (n : NameNumbers) (heap : Global) where
  -- an answer, as one of a transcript
  told_as : (a : RequestAnswer) → IsFew a → (j : JudgedAnswer) × SaysNumbered n a j × Came j
  told_as (answer.Code c) f = (judged.Code c, refl, tt)
  told_as (answer.Given xs) f =
      let small : length (map n.xid xs) < 2 ^ 63 = (let long = length_map n.xid xs in omega arith) in
      (judged.Given (vec_of heap 0 (map n.xid xs) small), vec_items_of heap 0 (map n.xid xs) small, tt)
  told_as (answer.Found v) f = (judged.Found (value_number n v), refl, tt)
  told_as answer.Done f = (judged.Done, refl, tt)
  told_as (answer.Refused e) f = (judged.Refused, refl, tt)
  told_as (answer.Booted b) f = (judged.Told, refl, tt)
  told_as (answer.NotBooted e) f = (judged.Refused, refl, tt)
  told_as (answer.Trimmed b) f = (judged.Told, refl, tt)
  told_as (answer.NotTrimmed e) f = (judged.Refused, refl, tt)
  told_as (answer.NotDecided e) f = (judged.Refused, refl, tt)

  abbrev HasCome : HistoryEvent → Type 0
  HasCome e = Came e.answer

  -- the events of a run
  events_of : (m k : KvSight) (rs : List Request) (given : List RequestAnswer) → RequestsLead m rs given k
      → AllByRecursion IsSpelled rs
      → (es : List HistoryEvent) × AreRequests n rs given es × AllByRecursion HasCome es
  events_of m k [] [] h s = ([], tt, tt)
  events_of m k [] (a ∷ given) h s = absurd h
  events_of m k (r ∷ rs) [] h s = absurd h
  events_of m k (r ∷ rs) (a ∷ given) h s =
      let (j, says, came) = told_as a (given_few m h.0 r a s.0 h.2) in
      let (es, are, all) = events_of h.0 k rs given h.3 s.1 in (
        record { call = call_of n r; answer = j } ∷ es,
        (record { calls = refl; says = says }, are),
        (came, all),
      )

  -- the number of an XID, and of a value that a script can write
  abbrev OfXid : ℕ → Type 0
  OfXid k = (x : Xid) × IsXid x × (n.xid x ≡ k)

  abbrev OfValue : ℕ → Type 0
  OfValue k = (v : List ℕ) × (is_visible_word 256 v ≡ true) × (n.word v ≡ k)

  no_value : OfValue 0
  no_value = (codes "none", refl, n.none)

  named : (r : Request) → IsSpelled r → Names OfXid OfValue (call_of n r)
  named (Open flags migrates) s = tt
  named (Close flags) s = tt
  named (Branch f t x flags) s = (x, s, refl)
  named (Recover t count flags) s = tt
  named (Work t (Get k)) s = tt
  named (Work t (Put k v)) s = (v, s, refl)
  named (Work t (Delete k)) s = no_value
  named (Restart keep) s = tt
  named Trim s = tt
  named (Decide x o) s = (x, s, refl)

  all_xids : (xs : List Xid) → AllByRecursion OfXid (map n.xid xs) → AllByRecursion IsXid xs
  all_xids [] h = tt
  all_xids (x ∷ xs) h =
      let (y, is, one) = h.0 in (subst IsXid (n.xids_apart y x one) is, all_xids xs h.1)

  given_read : (t c : ℕ) (flags : _) (xs : List Xid) (j : JudgedAnswer) → length xs < 2 ^ 63
      → GivesBranches (map n.xid xs) j
      → Tells OfXid OfValue (call_of n (Recover t c flags)) j → IsReadable (answer.Given xs)
  given_read t c flags xs (judged.Given v) f is h =
      (f, all_xids xs (subst (λ (ks : List ℕ). AllByRecursion OfXid ks) is h))
  given_read t c flags xs j f is h = absurd is

  answer_read : (old new : KvSight) (r : Request) (a : RequestAnswer) (j : JudgedAnswer)
      → RequestMakes old new r a → IsFew a → SaysNumbered n a j
      → Tells OfXid OfValue (call_of n r) j → IsReadable a
  answer_read old new (Recover t c flags) (answer.Given xs) j made f is h = given_read t c flags xs j f is h
  answer_read old new (Work t (Get k)) (answer.Found (Some v)) j made f is h =
      let (w, seen, one) = subst (λ (q : JudgedAnswer). Tells OfXid OfValue (call_of n (Work t (Get k))) q) is
      h in
      subst (λ (z : List ℕ). is_visible_word 256 z ≡ true) (n.words_apart w v one) seen
  answer_read old new (Open flags migrates) (answer.Given xs) j made f is h = absurd made
  answer_read old new (Close flags) (answer.Given xs) j made f is h = absurd made
  answer_read old new (Branch b t x flags) (answer.Given xs) j made f is h = absurd made
  answer_read old new (Work t (Get k)) (answer.Given xs) j made f is h = absurd made
  answer_read old new (Work t (Put k v)) (answer.Given xs) j made f is h = absurd made
  answer_read old new (Work t (Delete k)) (answer.Given xs) j made f is h = absurd made
  answer_read old new (Restart keep) (answer.Given xs) j made f is h = absurd made
  answer_read old new Trim (answer.Given xs) j made f is h = absurd made
  answer_read old new (Decide x o) (answer.Given xs) j made f is h = absurd made
  answer_read old new (Open flags migrates) (answer.Found (Some v)) j made f is h = absurd made
  answer_read old new (Close flags) (answer.Found (Some v)) j made f is h = absurd made
  answer_read old new (Branch b t x flags) (answer.Found (Some v)) j made f is h = absurd made
  answer_read old new (Recover t c flags) (answer.Found (Some v)) j made f is h = absurd made
  answer_read old new (Work t (Put k w)) (answer.Found (Some v)) j made f is h = absurd made
  answer_read old new (Work t (Delete k)) (answer.Found (Some v)) j made f is h = absurd made
  answer_read old new (Restart keep) (answer.Found (Some v)) j made f is h = absurd made
  answer_read old new Trim (answer.Found (Some v)) j made f is h = absurd made
  answer_read old new (Decide x o) (answer.Found (Some v)) j made f is h = absurd made
  answer_read old new r a j made f is h = tt

  -- the answers of a run that is legal
  run_read : (m k : KvSight) (rs : List Request) (given : List RequestAnswer) (es : List HistoryEvent)
      (s t : Sight) → RequestsLead m rs given k
      → AllByRecursion IsSpelled rs → AreRequests n rs given es → AllByRecursion HasCome es
      → IsNamed OfXid OfValue s
      → JudgeLeads lacks_forced s es t → AreReadable given
  run_read m k [] [] es s t h spelled are came named_so legal_so = tt
  run_read m k [] (a ∷ given) es s t h spelled are came named_so legal_so = absurd h
  run_read m k (r ∷ rs) [] es s t h spelled are came named_so legal_so = absurd h
  run_read m k (r ∷ rs) (a ∷ given) [] s t h spelled are came named_so legal_so = absurd are
  run_read m k (r ∷ rs) (a ∷ given) (e ∷ es) s t h spelled are came named_so legal_so =
      let u = legal_so.0 in
      let names : Names OfXid OfValue e.call =
      subst (λ (c : JudgedCall). Names OfXid OfValue c) (sym are.0.calls) (named r spelled.0) in
      let tells : Tells OfXid OfValue e.call e.answer =
      next_told OfXid OfValue no_value lacks_forced refl s e.call e.answer u named_so legal_so.1 in (
        answer_read m h.0 r a e.answer h.2 (given_few m h.0 r a spelled.0 h.2) are.0.says
            (subst (λ (c : JudgedCall). Tells OfXid OfValue c e.answer) are.0.calls tells),
        run_read h.0 k rs given es u t h.3 spelled.1 are.1 came.1
            (next_named OfXid OfValue lacks_forced s e.call e.answer u came.0 names named_so legal_so.1)
            legal_so.2,
      )

-- what a new manager answers to a script can be read
pub answers_readable : Global → (m k : KvSight) (input : List ℕ) (rs : List Request)
    (given : List RequestAnswer) → IsFreshManager m
    → RequestsLead m rs given k → IsXaScript input rs → AreReadable given
answers_readable heap m k input rs given fresh run s =
    let spelled = all_spelled (call_lines (lines input)) rs s.calls in
    let made = events_of numbers heap m k rs given run spelled in
    let legal_so : IsLegal lacks_forced made.0 =
    runs_legal numbers m k rs given made.0 fresh run (few input rs s) made.1 in
    run_read numbers heap m k rs given made.0 first_sight legal_so.0 run spelled made.1 made.2
    (tt, tt, tt, tt, tt, tt, refl) legal_so.1
