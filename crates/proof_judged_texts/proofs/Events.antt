-- A line of a transcript, read as the event that a request with its answer is.
use Rattle.std.proofs.Common.{◌≡◌, ◌≢◌, ℕ, ◌<◌, Bool, true, false, List, [], ◌∷◌, ◌++◌, length, map, Option, Some, None, refl, sym, ap, ◌∙◌, subst, codes, inl, inr}
use Rattle.std.specs.Prelude.{IsSomeAnd}
use Rattle.std.proofs.lemmas.Bool.{cases_Bool}
use Rattle.xa_codes.specs.declared.flags.Flags.{Flags}
use Rattle.xa_codes.specs.declared.code.Code.{Code as AnyCode}
use Rattle.xa_xid.specs.Xids.{null_xid}
use Rattle.xa_xid.specs.declared.xid.Xid.{Xid}
use Rattle.xa_branch.specs.Names.{same}
use Rattle.xa_branch.proofs.Names.{same_is, same_refl}
use Rattle.protocol.specs.declared.messages.Op.TheVariants.{Put, Get, Delete}
use Rattle.judge_rules.specs.declared.calls.JudgedAnswer.{JudgedAnswer}
use Rattle.judge_rules.specs.declared.calls.JudgedAnswer.TheVariants as judged
use Rattle.judge_rules.specs.declared.calls.BranchVerb.{BranchVerb}
use Rattle.judge_rules.specs.declared.calls.JudgedCall.{JudgedCall}
use Rattle.judge_words.specs.call
use Rattle.judge_rules.specs.declared.calls.HistoryEvent.{HistoryEvent}
use Rattle.judge_words.specs.function
use Rattle.judge_rules.specs.declared.calls.XidSort.{XidSort}
use Rattle.judge_rules.specs.declared.calls.XidSort.TheVariants as sort
use Rattle.judge_script.specs.declared.asking.TranscriptCall.{TranscriptCall}
use Rattle.judge_script.specs.declared.asking.TranscriptCall.TheVariants as asked
use Rattle.judge_script.specs.declared.asking.CallWord.{CallWord}
use Rattle.judge_script.specs.declared.answers.SaidAnswer.{SaidAnswer}
use Rattle.judge_script.specs.declared.answers.SaidAnswer.TheVariants as said
use Rattle.judge_script.specs.Askings.{AsksCall, AsksBy, word_at}
use Rattle.judge_script.specs.Answers.{SaysAnswer}
use Rattle.judge_script.specs.Numbers.{ArePlaces, IsLineAnswer, IsCall, IsLineEvent, IsPlace, IsSort, NameTable}
use Rattle.xa_engine.specs.declared.script.request.Request.{Request}
use Rattle.xa_engine.specs.declared.script.request.Request.TheVariants.{Open, Close, Branch, Recover, Work, Restart, Trim, Decide}
use Rattle.xa_engine.specs.declared.answer.RequestAnswer.{RequestAnswer}
use Rattle.xa_engine.specs.declared.answer.RequestAnswer.TheVariants as answer
use Rattle.proof_judged_deeds.specs.Deeds.{GivesBranches, on}
use Rattle.proof_judged_deeds.specs.Names.{NameNumbers, are_none, sort_of}
use Rattle.proof_judged_runs.specs.Events.{IsRequestEvent, SaysNumbered, call_of, verb_of}
use Rattle.proof_judged_texts.proofs.Numbers.{append_one}
use Rattle.proof_judged_texts.proofs.Requests.{IsWorded, Same}
use Rattle.proof_judged_texts.proofs.Answers.{IsSpoken, Tells}

-- numbers for all names that are those of a table
pub record Keeps (n : NameNumbers) (t : NameTable) : Type 0 where
  pub xid : (k : ℕ) (x : Xid) → IsPlace t.xids k x → n.xid x ≡ k
  pub word : (k : ℕ) (w : List ℕ) → IsPlace t.words k w → n.word w ≡ k

-- Calls.

sort_of_null : (x : Xid) → x ≡ null_xid → sort_of x ≡ sort.Null
sort_of_null x e =
    let yes : same x null_xid ≡ true = ap (λ (y : Xid). same y null_xid) e ∙ same_refl null_xid in rw yes refl

not_null : (x : Xid) → x ≢ null_xid → same x null_xid ≡ false
not_null x h = elim (cases_Bool (same x null_xid)) [ inl t ↦ absurd (h (same_is x null_xid t)) | inr f ↦ f ]

some_bytes : (bs : List ℕ) → bs ≢ [] → are_none bs ≡ false
some_bytes [] h = absurd (h refl)
some_bytes (b ∷ bs) h = refl

no_bytes : (bs : List ℕ) → bs ≡ [] → are_none bs ≡ true
no_bytes [] e = refl
no_bytes (b ∷ bs) e = cc

sort_same : (x : Xid) (s : XidSort) → IsSort x s → s ≡ sort_of x
sort_same x sort.Null h = sym (sort_of_null x h)
sort_same x sort.Bare h = rw (not_null x h.0, no_bytes x.bqual h.1) refl
sort_same x sort.Full h = rw (not_null x h.0, some_bytes x.bqual h.1) refl

-- what is asked, its names numbered
abbrev asked_call : NameNumbers → TranscriptCall → JudgedCall
asked_call n (asked.Open f) = call.Function (function.Open f)
asked_call n (asked.Close f) = call.Function (function.Close f)
asked_call n (asked.Branch v t x f) = call.Function (function.Branch v (on n t x f))
asked_call n (asked.Recover t c f) = call.Function (function.Recover t c f)
asked_call n (asked.Get t k) = call.Get t (n.word k.now)
asked_call n (asked.Put t k v) = call.Put t (n.word k.now) (n.word v.now)
asked_call n (asked.Decide x c) = call.Decide (n.xid x) c
asked_call n (asked.Restart c) = call.Restart c
asked_call n (asked.Disconnect t) = call.Disconnect t
asked_call n asked.Trim = call.Trim

branch_call : (v w : BranchVerb) (t u : ℕ) (f g : Flags) (j k : ℕ) (p q : XidSort) → w ≡ v → u ≡ t → g ≡ f
    → j ≡ k → p ≡ q
    → ◌≡◌ {A = JudgedCall} (call.Function (function.Branch w
    (record { thread = u; xid = record { number = j; sort = p }; flags = g })))
    (call.Function (function.Branch v (record {
      thread = t;
      xid = record { number = k; sort = q };
      flags = f;
    })))
branch_call v w t u f g j k p q a b c d e = cc

numbered_call : (n : NameNumbers) (t : NameTable) → Keeps n t → (a : TranscriptCall) (c : JudgedCall)
    → IsCall t a c → c ≡ asked_call n a
numbered_call n t keep (asked.Open f) (call.Function (function.Open g)) h =
    ap (λ (x : Flags). call.Function (function.Open x)) h
numbered_call n t keep (asked.Open f) c h = absurd h
numbered_call n t keep (asked.Close f) (call.Function (function.Close g)) h =
    ap (λ (x : Flags). call.Function (function.Close x)) h
numbered_call n t keep (asked.Close f) c h = absurd h
numbered_call n t keep (asked.Branch v u x f) (call.Function (function.Branch w o)) (a, b, c, d, e) =
    branch_call v w u o.thread f o.flags o.xid.number (n.xid x) o.xid.sort (sort_of x) a b c
    (sym (keep.xid o.xid.number x d)) (sort_same x o.xid.sort e)
numbered_call n t keep (asked.Branch v u x f) c h = absurd h
numbered_call n t keep (asked.Recover u k f) (call.Function (function.Recover v d g)) (a, b, c) =
    ap (λ (z : ℕ). call.Function (function.Recover z d g)) a
    ∙ ap (λ (z : ℕ). call.Function (function.Recover u z g)) b
    ∙ ap (λ (z : Flags). call.Function (function.Recover u k z)) c
numbered_call n t keep (asked.Recover u k f) c h = absurd h
numbered_call n t keep (asked.Get u k) (call.Get v j) (a, b) =
    ap (λ (z : ℕ). call.Get z j) a ∙ ap (λ (z : ℕ). call.Get u z) (sym (keep.word j k.now b))
numbered_call n t keep (asked.Get u k) c h = absurd h
numbered_call n t keep (asked.Put u k w) (call.Put v j i) (a, b, c) =
    ap (λ (z : ℕ). call.Put z j i) a ∙ ap (λ (z : ℕ). call.Put u z i) (sym (keep.word j k.now b))
    ∙ ap (λ (z : ℕ). call.Put u (n.word k.now) z) (sym (keep.word i w.now c))
numbered_call n t keep (asked.Put u k w) c h = absurd h
numbered_call n t keep (asked.Decide x m) (call.Decide k d) (a, b) =
    ap (λ (z : Bool). call.Decide k z) a ∙ ap (λ (z : ℕ). call.Decide z m) (sym (keep.xid k x b))
numbered_call n t keep (asked.Decide x m) c h = absurd h
numbered_call n t keep (asked.Restart m) (call.Restart d) h = ap (λ (z : Bool). call.Restart z) h
numbered_call n t keep (asked.Restart m) c h = absurd h
numbered_call n t keep (asked.Disconnect u) (call.Disconnect v) h = ap (λ (z : ℕ). call.Disconnect z) h
numbered_call n t keep (asked.Disconnect u) c h = absurd h
numbered_call n t keep asked.Trim call.Trim h = refl
numbered_call n t keep asked.Trim c h = absurd h

same_call : (n : NameNumbers) (a : TranscriptCall) (r : Request) → Same a r → asked_call n a ≡ call_of n r
same_call n (asked.Open f) (Open g m) h = ap (λ (x : Flags). call.Function (function.Open x)) h
same_call n (asked.Close f) (Close g) h = ap (λ (x : Flags). call.Function (function.Close x)) h
same_call n (asked.Branch v t x f) (Branch b u y g) (p, q, r, s) =
    ap (λ (z : BranchVerb). call.Function (function.Branch z (on n t x f))) p
    ∙ ap (λ (z : ℕ). call.Function (function.Branch (verb_of b) (on n z x f))) q
    ∙ ap (λ (z : Xid). call.Function (function.Branch (verb_of b) (on n u z f))) r
    ∙ ap (λ (z : Flags). call.Function (function.Branch (verb_of b) (on n u y z))) s
same_call n (asked.Recover t c f) (Recover u d g) (p, q, r) =
    ap (λ (z : ℕ). call.Function (function.Recover z c f)) p
    ∙ ap (λ (z : ℕ). call.Function (function.Recover u z f)) q
    ∙ ap (λ (z : Flags). call.Function (function.Recover u d z)) r
same_call n (asked.Get t k) (Work u (Get j)) (p, q) =
    ap (λ (z : ℕ). call.Get z (n.word k.now)) p ∙ ap (λ (z : List ℕ). call.Get u (n.word z)) q
same_call n (asked.Put t k v) (Work u (Put j w)) (p, q, r) =
    ap (λ (z : ℕ). call.Put z (n.word k.now) (n.word v.now)) p
    ∙ ap (λ (z : List ℕ). call.Put u (n.word z) (n.word v.now)) q
    ∙ ap (λ (z : List ℕ). call.Put u (n.word j) (n.word z)) r
same_call n (asked.Put t k v) (Work u (Delete j)) (p, q, r) =
    ap (λ (z : ℕ). call.Put z (n.word k.now) (n.word v.now)) p
    ∙ ap (λ (z : List ℕ). call.Put u (n.word z) (n.word v.now)) q
    ∙ ap (λ (z : ℕ). call.Put u (n.word j) z) (ap n.word r ∙ n.none)
same_call n (asked.Decide x c) (Decide y o) (p, q) =
    ap (λ (z : Xid). call.Decide (n.xid z) c) p ∙ ap (λ (z : Bool). call.Decide (n.xid y) z) q
same_call n (asked.Restart c) (Restart keep) h = ap (λ (z : Bool). call.Restart z) h
same_call n asked.Trim Trim h = refl
same_call n a r h = absurd h

-- Answers.

places : (n : NameNumbers) (t : NameTable) → Keeps n t → (ks : List ℕ) (xs : List Xid)
    → ArePlaces t.xids ks xs → ks ≡ map n.xid xs
places n t keep [] [] h = refl
places n t keep [] (x ∷ xs) h = absurd h
places n t keep (k ∷ ks) [] h = absurd h
places n t keep (k ∷ ks) (x ∷ xs) h =
    ap (λ (z : ℕ). z ∷ ks) (sym (keep.xid k x h.0)) ∙ ap (λ (zs : List ℕ). n.xid x ∷ zs)
    (places n t keep ks xs h.1)

code_answer : (t : NameTable) (c : AnyCode) (j : JudgedAnswer) → IsLineAnswer t (said.Code c) j
    → j ≡ judged.Code c
code_answer t c (judged.Code d) h = ap (λ (z : AnyCode). judged.Code z) h
code_answer t c j h = absurd h

given_answer : (n : NameNumbers) (t : NameTable) → Keeps n t → (ys : _) (xs : List Xid) (j : JudgedAnswer)
    → IsLineAnswer t (said.Given ys) j → ys.items ≡ xs → GivesBranches (map n.xid xs) j
given_answer n t keep ys xs (judged.Given ks) h e = places n t keep ks.items ys.items h ∙ ap (map n.xid) e
given_answer n t keep ys xs j h e = absurd h

found_answer : (n : NameNumbers) (t : NameTable) → Keeps n t → (v : _) (j : JudgedAnswer)
    → IsLineAnswer t (said.Found v) j
    → j ≡ judged.Found (n.word v.now)
found_answer n t keep v (judged.Found k) h = ap (λ (z : ℕ). judged.Found z) (sym (keep.word k v.now h))
found_answer n t keep v j h = absurd h

done_answer : (t : NameTable) (j : JudgedAnswer) → IsLineAnswer t said.Done j → j ≡ judged.Done
done_answer t judged.Done h = refl
done_answer t j h = absurd h

refused_answer : (t : NameTable) (j : JudgedAnswer) → IsLineAnswer t said.Refused j → j ≡ judged.Refused
refused_answer t judged.Refused h = refl
refused_answer t j h = absurd h

told_answer : (t : NameTable) (j : JudgedAnswer) → IsLineAnswer t said.Told j → j ≡ judged.Told
told_answer t judged.Told h = refl
told_answer t j h = absurd h

says_numbered : (n : NameNumbers) (t : NameTable) → Keeps n t
    → (s : SaidAnswer) (a : RequestAnswer) (j : JudgedAnswer) → Tells s a → IsLineAnswer t s j
    → SaysNumbered n a j
says_numbered n t keep (said.Code c) (answer.Code d) j h k = code_answer t c j k
    ∙ ap (λ (z : AnyCode). judged.Code z) h
says_numbered n t keep (said.Given ys) (answer.Given xs) j h k = given_answer n t keep ys xs j k h
says_numbered n t keep (said.Found v) (answer.Found None) j h k =
    found_answer n t keep v j k ∙ ap (λ (z : ℕ). judged.Found z) (ap n.word h ∙ n.none)
says_numbered n t keep (said.Found v) (answer.Found (Some w)) j h k =
    found_answer n t keep v j k ∙ ap (λ (z : List ℕ). judged.Found (n.word z)) h
says_numbered n t keep said.Done answer.Done j h k = done_answer t j k
says_numbered n t keep said.Refused (answer.Refused e) j h k = refused_answer t j k
says_numbered n t keep said.Refused (answer.NotBooted e) j h k = refused_answer t j k
says_numbered n t keep said.Refused (answer.NotTrimmed e) j h k = refused_answer t j k
says_numbered n t keep said.Refused (answer.NotDecided e) j h k = refused_answer t j k
says_numbered n t keep said.Told (answer.Booted b) j h k = told_answer t j k
says_numbered n t keep said.Told (answer.Trimmed b) j h k = told_answer t j k
says_numbered n t keep s a j h k = absurd h

-- The words of the line.

abbrev pub words_with : {l : List ℕ} {r : Request} {a : RequestAnswer} → IsWorded l r → IsSpoken a
    → List (List ℕ)
words_with w s = (w.first ∷ w.rest) ++ codes "->" ∷ (s.first ∷ s.rest)

asked_by : (o : Option CallWord) (k : CallWord) (ws : List (List ℕ)) (a : TranscriptCall) → o ≡ Some k
    → IsSomeAnd o (λ q. AsksBy q ws a) → AsksBy k ws a
asked_by None k ws a e h = absurd h
asked_by (Some q) k ws a e h = let same : q ≡ k = cc in subst (λ (z : CallWord). AsksBy z ws a) same h

pub heads : {A : Type 0} (x y : A) (xs ys : List A) → x ∷ xs ≡ y ∷ ys → (x ≡ y) × (xs ≡ ys)
heads x y xs ys e = (cc, cc)

by_call : (l : List ℕ) (r : Request) (a : RequestAnswer) (w : IsWorded l r) (s : IsSpoken a)
    (calls later : List (List ℕ)) (q : TranscriptCall)
    (p : SaidAnswer) → (w.first ∷ w.rest) ++ codes "->" ∷ (s.first ∷ s.rest) ≡ calls ++ codes "->" ∷ later
    → AsksCall calls q → SaysAnswer later p
    → Same q r × Tells p a
by_call l r a w s [] later q p e h k = absurd h
by_call l r a w s (f ∷ other) later q p e h k =
    let (first, tails) = heads w.first f (w.rest ++ codes "->" ∷ (s.first ∷ s.rest))
    (other ++ codes "->" ∷ later) e in
    let named : word_at f ≡ Some w.word = ap word_at (sym first) ∙ w.named in
    let asks : AsksBy w.word other q = asked_by (word_at f) w.word other q named h in
    let is : w.rest ≡ other = w.place other later (s.first ∷ s.rest) q asks
    (λ z i. s.no_arrow (heads s.first (codes "->") s.rest z i).0) tails in
    let cut = append_one w.rest (codes "->" ∷ (s.first ∷ s.rest)) other (codes "->" ∷ later)
    (ap length is) tails in
    let rest : s.first ∷ s.rest ≡ later = (heads (codes "->") (codes "->") (s.first ∷ s.rest) later cut.1).1
    in
    let says : SaysAnswer (s.first ∷ s.rest) p = subst (λ (z : List (List ℕ)). SaysAnswer z p) (sym rest) k
    in (
      w.only q (subst (λ (z : List (List ℕ)). AsksBy w.word z q) (sym is) asks),
      s.only p says,
    )

-- an event that such words spell is the request with its answer
pub line_event : (n : NameNumbers) (t : NameTable) → Keeps n t
    → (l : List ℕ) (r : Request) (a : RequestAnswer) (w : IsWorded l r)
    (s : IsSpoken a) (e : HistoryEvent) → IsLineEvent t (words_with w s) e → IsRequestEvent n r a e
line_event n t keep l r a w s e h =
    let (same, tells) = by_call l r a w s h.call h.answer h.asked h.said h.parts h.asks h.says in
    record {
      calls = numbered_call n t keep h.asked e.call h.is_call ∙ same_call n h.asked r same;
      says = says_numbered n t keep h.said a e.answer tells h.is_answer;
    }
