-- Places of names, and tables that grow.
use Rattle.std.proofs.Common.{◌≡◌, ℕ, ◌<◌, List, [], ◌∷◌, ◌++◌, length, refl, sym, ap, ◌∙◌, inl, inr, arith, append_assoc}
use Rattle.std.proofs.lemmas.Bool.{cases_lt}
use Rattle.std.proofs.lemmas.List.{append-nil, length-append, get_or_append_left, get_or_default, get_or_push}
use Rattle.xa_xid.specs.declared.xid.Xid.{Xid}
use Rattle.judge_rules.specs.declared.calls.JudgedAnswer.{JudgedAnswer}
use Rattle.judge_rules.specs.declared.calls.JudgedAnswer.TheVariants as answer
use Rattle.judge_rules.specs.declared.calls.JudgedCall.{JudgedCall}
use Rattle.judge_rules.specs.declared.calls.JudgedCall.TheVariants as call
use Rattle.judge_rules.specs.declared.calls.HistoryEvent.{HistoryEvent}
use Rattle.judge_words.specs.function
use Rattle.judge_script.specs.declared.asking.TranscriptCall.{TranscriptCall}
use Rattle.judge_script.specs.declared.asking.TranscriptCall.TheVariants as asked
use Rattle.judge_script.specs.declared.answers.SaidAnswer.{SaidAnswer}
use Rattle.judge_script.specs.declared.answers.SaidAnswer.TheVariants as said
use Rattle.judge_script.specs.Numbers.{AreApartNames, ArePlaces, Grows, HasMore, IsLineAnswer, IsCall, IsLineEvent, IsPlace, NameTable}

pub more_same : {A : Type 0} (old : List A) → HasMore old old
more_same old = ([], sym (append-nil old))

pub more_push : {A : Type 0} (old : List A) (x : A) → HasMore old (old ++ x ∷ [])
more_push old x = (x ∷ [], refl)

pub more_trans : {A : Type 0} (a b c : List A) → HasMore a b → HasMore b c → HasMore a c
more_trans a b c (m, is) (n, js) = (m ++ n, js ∙ ap (λ t. t ++ n) is ∙ append_assoc a m n)

-- a name keeps its place
pub place_more : {A : Type 0} (old new : List A) (k : ℕ) (x : A) → HasMore old new → IsPlace old k x
    → IsPlace new k x
place_more old new k x (more, is) (lt, at) = rw is (
  omega (arith, length-append old more),
  get_or_append_left old more x k lt ∙ at,
)

pub places_more : (old new : List Xid) (ks : List ℕ) (xs : List Xid) → HasMore old new → ArePlaces old ks xs
    → ArePlaces new ks xs
places_more old new [] [] more h = tt
places_more old new [] (x ∷ xs) more h = absurd h
places_more old new (k ∷ ks) [] more h = absurd h
places_more old new (k ∷ ks) (x ∷ xs) more h =
    (place_more old new k x more h.0, places_more old new ks xs more h.1)

pub places_push : (names : List Xid) (ks : List ℕ) (xs : List Xid) (k : ℕ) (x : Xid) → ArePlaces names ks xs
    → IsPlace names k x → ArePlaces names (ks ++ k ∷ []) (xs ++ x ∷ [])
places_push names [] [] k x h p = (p, tt)
places_push names [] (y ∷ ys) k x h p = absurd h
places_push names (j ∷ js) [] k x h p = absurd h
places_push names (j ∷ js) (y ∷ ys) k x h p = (h.0, places_push names js ys k x h.1 p)

-- a new name has the last place
pub place_push : {A : Type 0} (old : List A) (x : A) (k : ℕ) → k ≡ length old → IsPlace (old ++ x ∷ []) k x
place_push old x k is = (
  omega (arith, length-append old (x ∷ []), is),
  get_or_push old x x k (sym is),
)

-- a name that had no place is apart from the others
pub apart_push : {A : Type 0} (old : List A) (x : A) → ((i : ℕ) → IsPlace old i x → ⊥) → AreApartNames old
    → AreApartNames (old ++ x ∷ [])
apart_push old x new apart i j d lt in_new =
    elim (cases_lt j (length old)) [
      | inl before ↦ (λ e. apart i j d lt before (
          sym (get_or_append_left old (x ∷ []) d i (omega arith)) ∙ e
          ∙ get_or_append_left old (x ∷ []) d j before))
      | inr past ↦ (
          let j_last : length old ≡ j = omega (arith, length-append old (x ∷ [])) in
          let i_in : i < length old = omega arith in
          λ e. new i (
            i_in,
            get_or_default old i x d i_in ∙ sym (get_or_append_left old (x ∷ []) d i i_in) ∙ e
                ∙ get_or_push old x d j j_last,
          ))
    ]

pub grows_same : (n : NameTable) → Grows n n
grows_same n = record {
  xids = more_same n.xids;
  words = more_same n.words;
  apart_xids = λ h. h;
  apart_words = λ h. h;
}

pub grows_trans : (a b c : NameTable) → Grows a b → Grows b c → Grows a c
grows_trans a b c g h = record {
  xids = more_trans a.xids b.xids c.xids g.xids h.xids;
  words = more_trans a.words b.words c.words g.words h.words;
  apart_xids = λ p. h.apart_xids (g.apart_xids p);
  apart_words = λ p. h.apart_words (g.apart_words p);
}

-- a call and an answer that are numbered stay so
pub call_more : (n m : NameTable) → Grows n m → (a : TranscriptCall) (c : JudgedCall) → IsCall n a c
    → IsCall m a c
call_more n m g (asked.Open f) (call.Function (function.Open h)) is = is
call_more n m g (asked.Close f) (call.Function (function.Close h)) is = is
call_more n m g (asked.Branch v t x f) (call.Function (function.Branch w o)) is =
    (is.0, is.1, is.2, place_more n.xids m.xids o.xid.number x g.xids is.3, is.4)
call_more n m g (asked.Recover t c f) (call.Function (function.Recover u d h)) is = is
call_more n m g (asked.Get t k) (call.Get u j) is = (is.0, place_more n.words m.words j k.now g.words is.1)
call_more n m g (asked.Put t k v) (call.Put u j i) is = (
  is.0,
  place_more n.words m.words j k.now g.words is.1,
  place_more n.words m.words i v.now g.words is.2,
)
call_more n m g (asked.Decide x c) (call.Decide k d) is = (is.0, place_more n.xids m.xids k x g.xids is.1)
call_more n m g (asked.Restart c) (call.Restart d) is = is
call_more n m g (asked.Disconnect t) (call.Disconnect u) is = is
call_more n m g asked.Trim call.Trim is = is
call_more n m g a c is = absurd is

pub answer_more : (n m : NameTable) → Grows n m → (s : SaidAnswer) (a : JudgedAnswer) → IsLineAnswer n s a
    → IsLineAnswer m s a
answer_more n m g (said.Code c) (answer.Code d) is = is
answer_more n m g (said.Given xs) (answer.Given ks) is = places_more n.xids m.xids ks.items xs.items g.xids is
answer_more n m g (said.Found v) (answer.Found k) is = place_more n.words m.words k v.now g.words is
answer_more n m g said.Done answer.Done is = is
answer_more n m g said.Refused answer.Refused is = is
answer_more n m g said.Told answer.Told is = is
answer_more n m g said.Hung answer.Hung is = is
answer_more n m g s a is = absurd is

pub event_more : (n m : NameTable) → Grows n m → (ws : List (List ℕ)) (e : HistoryEvent) → IsLineEvent n ws e
    → IsLineEvent m ws e
event_more n m g ws e h = record {
  call = h.call;
  answer = h.answer;
  parts = h.parts;
  asked = h.asked;
  said = h.said;
  asks = h.asks;
  says = h.says;
  is_call = call_more n m g h.asked e.call h.is_call;
  is_answer = answer_more n m g h.said e.answer h.is_answer;
}
