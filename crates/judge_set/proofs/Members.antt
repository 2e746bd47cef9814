-- Sets of states as lists, and the histories that lead to them.
use Rattle.std.proofs.Common.{◌≡◌, ℕ, ◌+◌, ◌<◌, ◌≤◌, zero, suc, Option, Some, None, List, [], ◌∷◌, ◌++◌, length, get_or, take, drop, refl, sym, subst, ap, inl, inr, arith}
use Rattle.std.specs.Prelude.{Contains, IfOk, Result, Ok, Err}
use Rattle.std.proofs.lemmas.Bool.{cases_lt}
use Rattle.std.proofs.lemmas.List.{take-append-drop}
use Rattle.std.proofs.lemmas.List.Elements.{Contains-get_or, Contains-append_left, Contains-push, Contains-append_cases}
use Rattle.judge_state.specs.Sights.{Sight, first_sight}
use Rattle.judge_rules.specs.declared.calls.HistoryEvent.{HistoryEvent}
use Rattle.judge_rules.specs.declared.words.Rules.{Rules}
use Rattle.judge_rules.specs.Histories.{IsLegal, JudgeLeads, Step}
use Rattle.judge_rules.specs.Steps.{next}
use Rattle.judge_rules.specs.Sets.{Adds, AreApartStates, AreMany, AreTooManyStates, IsSetOf}
use Rattle.judge_rules.specs.declared.errors.JudgeError.{JudgeError}
use Rattle.judge_rules.specs.declared.errors.TheConstants.{MOST_STATES}
use Rattle.judge_rules.proofs.Members.{no_more, none_in, one_is}
use Rattle.judge_set.specs.declared.verdict.Walk.{Walk}
use Rattle.judge_set.specs.Sets.{AreStatesLeft, Follows, IsTooMuch, IsVerdict, IsWalk, JudgeLeadsOn, MayFollow, MayLead}

-- nothing follows none
pub follows_none : (r : Rules) (e : HistoryEvent) → Follows r [] e []
follows_none r e t = (λ c. absurd (none_in t c), λ (s, c, step). absurd (none_in s c))

-- and what follows one more
pub follows_more : (r : Rules) (e : HistoryEvent) (old after new more : List Sight) (s : Sight)
    → Follows r old e after
    → Adds after new more → IsSetOf (next r s e.call e.answer) more → Follows r (old ++ s ∷ []) e new
follows_more r e old after new more s so_far adds set t = (
  λ c. elim ((adds.all t).0 c) [
    | inl a ↦ (let f = (so_far t).0 a in (f.0, Contains-append_left old (s ∷ []) f.0 f.1, f.2))
    | inr a ↦ (s, Contains-push old s, (set.all t).0 a)
  ],
  λ (u, c, step). elim (Contains-append_cases old (s ∷ []) u c) [
    | inl o ↦ (adds.all t).1 (inl ((so_far t).1 (u, o, step)))
    | inr o ↦ (adds.all t).1 (inr ((set.all t).1
        (subst (λ (q : Sight). Step r q e t) (sym (one_is s u o)) step)))
  ],
)

-- what follows some of these follows these
front_follows : (r : Rules) (e : HistoryEvent) (all : List Sight) (n : ℕ) (t : Sight)
    → MayFollow r (take n all) e t
    → MayFollow r all e t
front_follows r e all n t (s, c, step) = (
  s,
  subst (λ (q : List Sight). Contains q s) (take-append-drop n all)
      (Contains-append_left (take n all) (drop n all) s c),
  step,
)

-- more than are gone through follow some of these, so they follow these
pub many_follow : (r : Rules) (e : HistoryEvent) (all new : List Sight) (n : ℕ) → Follows r (take n all) e new
    → AreApartStates new
    → MOST_STATES < length new → AreMany (MayFollow r all e)
many_follow r e all new n follows apart many =
    (new, apart, λ t c. front_follows r e all n t ((follows t).0 c), many)

-- and if they follow one of these
pub one_leads_many : (r : Rules) (e : HistoryEvent) (all : List Sight) (i : ℕ) (s : Sight) → i < length all
    → s ≡ get_or all i s → AreTooManyStates (next r s e.call e.answer) → AreMany (MayFollow r all e)
one_leads_many r e all i s lt is (ts, apart, among, many) = (
  ts,
  apart,
  λ t c. (s, subst (λ (q : Sight). Contains all q) (sym is) (Contains-get_or all i s lt), among t c),
  many,
)

-- there are not too many of a kind that are all in a short list
pub not_many : (P : Sight → Type 0) (us : List Sight) → ((t : Sight) → P t → Contains us t)
    → length us ≤ MOST_STATES
    → AreMany P → ⊥
not_many P us all few (ts, apart, kind, many) =
    omega (arith, no_more ts us apart (λ t c. all t (kind t c)), few, many)

leads_more : (r : Rules) (es : List HistoryEvent) (s : Sight) (e : HistoryEvent) (u t : Sight)
    → JudgeLeads r s es u → Step r u e t
    → JudgeLeads r s (es ++ e ∷ []) t
leads_more r [] s e u t is step = (t, subst (λ (q : Sight). Step r q e t) (sym is) step, refl)
leads_more r (d ∷ es) s e u t (v, first, rest) step = (v, first, leads_more r es v e u t rest step)

leads_less : (r : Rules) (es : List HistoryEvent) (s : Sight) (e : HistoryEvent) (t : Sight)
    → JudgeLeads r s (es ++ e ∷ []) t
    → (u : Sight) × JudgeLeads r s es u × Step r u e t
leads_less r [] s e t (u, step, is) = (s, refl, subst (λ (q : Sight). Step r s e q) is step)
leads_less r (d ∷ es) s e t (v, first, rest) =
    let h = leads_less r es v e t rest in (h.0, (v, first, h.1), h.2)

-- no call leaves the states alone
pub left_start : (r : Rules) (starts : List Sight) → AreStatesLeft r starts [] starts
left_start r starts t = (
  λ c. (t, c, refl),
  λ (s, c, is). subst (λ (q : Sight). Contains starts q) is c,
)

-- one more call leaves what follows
pub left_more : (r : Rules) (starts : List Sight) (es : List HistoryEvent) (e : HistoryEvent)
    (old new : List Sight)
    → AreStatesLeft r starts es old → Follows r old e new → AreStatesLeft r starts (es ++ e ∷ []) new
left_more r starts es e old new left follows t = (
  λ c. let f = (follows t).0 c in
      let h = (left f.0).0 f.1 in (h.0, h.1, leads_more r es h.0 e f.0 t h.2 f.2),
  λ (s, c, l). let h = leads_less r es s e t l in (follows t).1 (h.0, (left h.0).1 (s, c, h.1), h.2),
)

-- too many after one more call
pub many_more : (r : Rules) (starts : List Sight) (es : List HistoryEvent) (e : HistoryEvent)
    (old : List Sight)
    → AreStatesLeft r starts es old → AreMany (MayFollow r old e) → AreMany (MayLead r starts (es ++ e ∷ []))
many_more r starts es e old left (ts, apart, follow, many) = (
  ts,
  apart,
  λ t c. let f = follow t c in let h = (left f.0).0 f.1 in (h.0, h.1, leads_more r es h.0 e f.0 t h.2 f.2),
  many,
)

-- if there are many, there is one
many_lead : (r : Rules) (starts : List Sight) (es : List HistoryEvent) → AreMany (MayLead r starts es)
    → JudgeLeadsOn r starts es
many_lead r starts es (ts, apart, lead, many) =
    let t = get_or ts 0 first_sight in
    let h = lead t (Contains-get_or ts 0 first_sight (omega (arith, many))) in (h.0, t, h.1, h.2)

-- where a state is left the history leads on
pub leads_on : (r : Rules) (starts : List Sight) (es : List HistoryEvent) (states : List Sight)
    → AreStatesLeft r starts es states → 0 < length states → JudgeLeadsOn r starts es
leads_on r starts es states left some =
    let t = get_or states 0 first_sight in
    let h = (left t).0 (Contains-get_or states 0 first_sight some) in (h.0, t, h.1, h.2)

-- and where none is left it does not
pub leads_nowhere : (r : Rules) (starts : List Sight) (es : List HistoryEvent) (states : List Sight)
    → AreStatesLeft r starts es states → length states ≡ 0 → JudgeLeadsOn r starts es → ⊥
leads_nowhere r starts es states left none (s, t, c, l) =
    let d = (left t).1 (s, c, l) in omega (arith, d.1, none)

leads_front : (r : Rules) (n : ℕ) (es : List HistoryEvent) (s t : Sight) → JudgeLeads r s es t
    → (u : Sight) × JudgeLeads r s (take n es) u
leads_front r zero es s t l = (s, refl)
leads_front r (suc n) [] s t l = (s, refl)
leads_front r (suc n) (e ∷ es) s t (u, step, rest) =
    let h = leads_front r n es u t rest in (h.0, (u, step, h.1))

pub take_take : (n m : ℕ) (es : List HistoryEvent) → n ≤ m → take n (take m es) ≡ take n es
take_take zero m es h = refl
take_take (suc n) zero es h = absurd (omega (arith, h))
take_take (suc n) (suc m) [] h = refl
take_take (suc n) (suc m) (e ∷ es) h =
    ap (λ (q : List HistoryEvent). e ∷ q) (take_take n m es (omega (arith, h)))

-- a front of events that lead on leads on
leads_on_front : (r : Rules) (starts : List Sight) (n m : ℕ) (es : List HistoryEvent) → n ≤ m
    → JudgeLeadsOn r starts (take m es) → JudgeLeadsOn r starts (take n es)
leads_on_front r starts n m es le (s, t, c, l) =
    let h = leads_front r n (take m es) s t l in
    (s, h.0, c, subst (λ (q : List HistoryEvent). JudgeLeads r s q h.0) (take_take n m es le) h.1)

-- the events before the first that leads to none were not too much, so all are not
pub not_past : (r : Rules) (starts : List Sight) (es : List HistoryEvent) (i : ℕ)
    → ((j : ℕ) → j < i → AreMany (MayLead r starts (take (j + 1) es)) → ⊥)
    → (JudgeLeadsOn r starts (take (i + 1) es) → ⊥) → IsTooMuch r starts es → ⊥
not_past r starts es i before stops (j, lt, many) = elim (cases_lt j i) [
  | inl less ↦ before j less many
  | inr ge ↦ stops (leads_on_front r starts (i + 1) (j + 1) es (omega (arith, ge))
      (many_lead r starts (take (j + 1) es) many))
]

-- not too much after one event more
pub not_next : (r : Rules) (starts : List Sight) (es : List HistoryEvent) (i : ℕ) (new : List Sight)
    → ((j : ℕ) → j < i → AreMany (MayLead r starts (take (j + 1) es)) → ⊥)
    → AreStatesLeft r starts (take (i + 1) es) new → length new ≤ MOST_STATES
    → (j : ℕ) → j < i + 1 → AreMany (MayLead r starts (take (j + 1) es)) → ⊥
not_next r starts es i new before left few j lt many = elim (cases_lt j i) [
  | inl less ↦ before j less many
  | inr ge ↦ (let e : j ≡ i = omega arith in not_many (MayLead r starts (take (i + 1) es)) new
      (λ t h. (left t).1 h) few
      (subst (λ (k : ℕ). AreMany (MayLead r starts (take (k + 1) es))) e many))
]

pub legal_on : (r : Rules) (es : List HistoryEvent) → JudgeLeadsOn r (first_sight ∷ []) es → IsLegal r es
legal_on r es (s, t, c, l) = (t, subst (λ (q : Sight). JudgeLeads r q es t) (sym (one_is first_sight s c)) l)

pub on_legal : (r : Rules) (es : List HistoryEvent) → IsLegal r es → JudgeLeadsOn r (first_sight ∷ []) es
on_legal r es (t, l) = (first_sight, t, Contains-push [] first_sight, l)

-- a front of a legal history is legal
pub legal_front : (r : Rules) (es : List HistoryEvent) (n : ℕ) → IsLegal r es → IsLegal r (take n es)
legal_front r es n (t, l) = leads_front r n es first_sight t l

-- how far a history leads from the first state is its verdict
pub verdict : (r : Rules) (es : List HistoryEvent) (fault : Option ℕ) → IsWalk r (first_sight ∷ []) es fault
    → IsVerdict r es fault
verdict r es None w = legal_on r es w
verdict r es (Some i) w = record {
  within = w.within;
  before = legal_on r (take i es) w.before;
  fault = λ l. w.stops (on_legal r (take (i + 1) es) l);
  illegal = λ (t, l). w.stops (on_legal r (take (i + 1) es) (leads_front r (i + 1) es first_sight t l));
}

pub verdicts : (r : Rules) (es : List HistoryEvent) (w : Result Walk JudgeError)
    → IfOk w (λ walk. IsWalk r (first_sight ∷ []) es walk.fault) → IfOk w (λ walk. IsVerdict r es walk.fault)
verdicts r es (Ok walk) h = verdict r es walk.fault h
verdicts r es (Err e) h = tt
