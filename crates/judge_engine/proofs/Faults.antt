-- How the judge goes on, fault by fault.
use Rattle.std.proofs.Common.{◌≡◌, ℕ, ◌+◌, ◌<◌, Bool, true, false, Option, Some, None, List, [], ◌∷◌, ◌++◌, length, get_or, take, drop, refl, sym, subst, ap, ◌∙◌, arith}
use Rattle.std.specs.Prelude.{not, slice_get}
use Rattle.std.proofs.lemmas.List.{append-nil, length-drop}
use Rattle.std.proofs.lemmas.Option.{slice_get-get_or}
use Rattle.judge_state.specs.Sights.{Sight, first_sight}
use Rattle.judge_rules.specs.declared.calls.HistoryEvent.{HistoryEvent}
use Rattle.judge_rules.specs.declared.words.Rules.{Rules}
use Rattle.judge_rules.specs.Histories.{IsLegal}
use Rattle.judge_rules.specs.Steps.{is_answered}
use Rattle.judge_set.specs.declared.verdict.Walk.{Walk}
use Rattle.judge_set.specs.Resuming.{resumed}
use Rattle.judge_set.specs.Sets.{AreStatesLeft, IsFirstIllegal, IsTooMuch, IsVerdict, IsWalk, JudgeStops, followed}
use Rattle.judge_set.proofs.Members.{on_legal, legal_on}
use Rattle.judge_engine.specs.declared.judging.Extent.{Extent}
use Rattle.judge_engine.specs.declared.judging.Extent.TheVariants.{First, All}
use Rattle.judge_engine.specs.Faults.{AreFaults, AreTold, GoesOn, IsAt, IsFault, IsNext, IsNextOver, IsOver, IsOverFor}

abbrev event_or : HistoryEvent → Option HistoryEvent → HistoryEvent
event_or d None = d
event_or d (Some e) = e

some_is : (a b : HistoryEvent) → Some a ≡ Some b → a ≡ b
some_is a b is = ap (event_or a) is

-- there are states to go on from, if there were some
pub resumed_some : (e : HistoryEvent) (us : List Sight) → 0 < length us → 0 < length (resumed e us)
resumed_some e [] some = absurd (omega (arith, some))
resumed_some e (u ∷ us) some = omega arith

pub not_hung : (hung answered : Bool) → hung ≡ not answered → hung ≡ false → answered ≡ true
not_hung hung true is no_hang = refl
not_hung hung false is no_hang = absurd (cc)

event_at : (es : List HistoryEvent) (i : ℕ) → i < length es → (e : HistoryEvent) × (slice_get es i ≡ Some e)
event_at [] i lt = absurd (omega (arith, lt))
event_at (d ∷ es) i lt = (get_or (d ∷ es) i d, slice_get-get_or (d ∷ es) i d lt)

-- how the judge goes on, by equal events, states and walks
pub next_is : (r : Rules) (es fs : List HistoryEvent) (at : ℕ) (us vs : List Sight) (o p : Option Walk)
    → fs ≡ es → vs ≡ us
    → p ≡ o → IsNext r fs at vs p → IsNext r es at us o
next_is r es fs at us vs o p same_events same_states same_walk n =
    subst (λ (l : List HistoryEvent). IsNext r l at us o) same_events
    (subst (λ (l : List Sight). IsNext r fs at l o) same_states
    (subst (λ (q : Option Walk). IsNext r fs at vs q) same_walk n))

pub next_over_is : (r : Rules) (es fs : List HistoryEvent) (at : ℕ) (us vs : List Sight) → fs ≡ es → vs ≡ us
    → IsNextOver r fs at vs → IsNextOver r es at us
next_over_is r es fs at us vs same_events same_states n =
    subst (λ (l : List HistoryEvent). IsNextOver r l at us) same_events
    (subst (λ (l : List Sight). IsNextOver r fs at l) same_states n)

-- one fault more, with an answer
go_more : (r : Rules) (es : List HistoryEvent) (n : ℕ) (starts : List Sight) (js : List ℕ) (m : ℕ)
    (states : List Sight)
    (j : ℕ) (e : HistoryEvent) (before : List Sight) → GoesOn r es n starts js m states
    → IsFault r es m states j e before
    → is_answered e.answer ≡ true → GoesOn r es n starts (js ++ j ∷ []) (j + 1) (resumed e before)
go_more r es n starts [] m states j e before (same_number, same_states) fault answered = (
  e,
  before,
  subst (λ (k : ℕ). IsFault r es k starts j e before) (sym same_number)
      (subst (λ (us : List Sight). IsFault r es m us j e before) (sym same_states) fault),
  answered,
  (refl, refl),
)
go_more r es n starts (k ∷ ks) m states j e before (f, earlier, first, told, rest) fault answered = (
  f,
  earlier,
  first,
  told,
  go_more r es (k + 1) (resumed f earlier) ks m states j e before
      rest fault answered,
)

-- what is possible before a fault is something
pub some_before : (r : Rules) (es : List HistoryEvent) (js : List ℕ) (at : ℕ) (before : List Sight)
    → IsAt r es js at before → 0 < length before
some_before r es js at before a =
    let l = a.fault.stops.before in
    let c = (a.fault.left l.1).1 (l.0, l.2, l.3) in omega (arith, c.1)

-- its event is within
pub at_within : (r : Rules) (es : List HistoryEvent) (js : List ℕ) (at : ℕ) (before : List Sight)
    → IsAt r es js at before → at < length es
at_within r es js at before a =
    omega (arith, a.fault.index, a.fault.stops.within, length-drop a.number es)

-- the first fault
pub first_at : (r : Rules) (es : List HistoryEvent) (i : ℕ) (before : List Sight) → IsFirstIllegal r es i
    → AreStatesLeft r (first_sight ∷ []) (take i es) before → (IsTooMuch r (first_sight ∷ []) es → ⊥)
    → IsAt r es (i ∷ []) i before
first_at r es i before f left few =
    let e = event_at es i f.within in
    record {
      answered = [];
      number = 0;
      starts = first_sight ∷ [];
      event = e.0;
      all = refl;
      goes_on = (refl, refl);
      fault = record {
        steps = i;
        index = omega arith;
        event = e.1;
        stops = record {
          within = f.within;
          before = on_legal r (take i es) f.before;
          stops = λ l. f.fault (legal_on r (take (i + 1) es) l);
        };
        left = left;
        few = few;
      };
    }

-- it goes on after a fault
goes_past : (r : Rules) (es : List HistoryEvent) (js : List ℕ) (at : ℕ) (before : List Sight)
    (a : IsAt r es js at before)
    (e : HistoryEvent) → slice_get es at ≡ Some e → is_answered e.answer ≡ true
    → GoesOn r es 0 (first_sight ∷ []) (a.answered ++ at ∷ []) (at + 1) (resumed e before)
goes_past r es js at before a e is answered =
    let same : a.event ≡ e = some_is a.event e (sym a.fault.event ∙ is) in
    go_more r es 0 (first_sight ∷ []) a.answered a.number a.starts at e before a.goes_on
    (subst (λ (q : HistoryEvent). IsFault r es a.number a.starts at q before) same a.fault) answered

-- the end of a next fault is within
pub next_within : (r : Rules) (es : List HistoryEvent) (at : ℕ) (before : List Sight) (w : Walk) (more : ℕ)
    → IsNext r es at before (Some w) → w.fault ≡ Some more → at + 1 + more < length es
next_within r es at before w more (e, is, answered, walks) found =
    let s : JudgeStops r (resumed e before) (drop (at + 1) es) more =
    subst (λ (o : Option ℕ). IsWalk r (resumed e before) (drop (at + 1) es) o) found walks.fault in
    omega (arith, s.within, length-drop (at + 1) es)

-- the next fault
pub next_at : (r : Rules) (es : List HistoryEvent) (js : List ℕ) (at : ℕ) (before : List Sight)
    (w : Walk) (more : ℕ)
    → IsAt r es js at before → IsNext r es at before (Some w) → w.fault ≡ Some more
    → IsAt r es (js ++ (at + 1 + more) ∷ []) (at + 1 + more) w.states.items
next_at r es js at before w more a (e, is, answered, walks) found =
    let rest = drop (at + 1) es in
    let s : JudgeStops r (resumed e before) rest more =
    subst (λ (o : Option ℕ). IsWalk r (resumed e before) rest o) found walks.fault in
    let next = event_at es (at + 1 + more) (next_within r es at before w more (e, is, answered, walks) found)
    in
    record {
      answered = a.answered ++ at ∷ [];
      number = at + 1;
      starts = resumed e before;
      event = next.0;
      all = ap (λ (l : List ℕ). l ++ (at + 1 + more) ∷ []) a.all;
      goes_on = goes_past r es js at before a e is answered;
      fault = record {
        steps = more;
        index = refl;
        event = next.1;
        stops = s;
        left = subst (λ (o : Option ℕ). AreStatesLeft r (resumed e before) (followed rest o) w.states.items)
            found walks.left;
        few = walks.few;
      };
    }

-- the last fault has no answer
pub ended_hung : (r : Rules) (es : List HistoryEvent) (js : List ℕ) (at : ℕ) (before : List Sight)
    → IsAt r es js at before
    → IsNext r es at before None → AreFaults r es js
ended_hung r es js at before a (e, is, hung) =
    let same : a.event ≡ e = some_is a.event e (sym a.fault.event ∙ is) in
    record {
      answered = a.answered;
      last = at ∷ [];
      number = a.number;
      states = a.starts;
      all = a.all;
      goes_on = a.goes_on;
      ends = (
        refl,
        (
          e,
          before,
          subst (λ (q : HistoryEvent). IsFault r es a.number a.starts at q before) same
              a.fault,
          hung,
        ),
      );
    }

-- there is none after it
pub ended : (r : Rules) (es : List HistoryEvent) (js : List ℕ) (at : ℕ) (before : List Sight) (w : Walk)
    → IsAt r es js at before → IsNext r es at before (Some w) → w.fault ≡ None → AreFaults r es js
ended r es js at before w a (e, is, answered, walks) none =
    let rest = drop (at + 1) es in
    record {
      answered = a.answered ++ at ∷ [];
      last = [];
      number = at + 1;
      states = resumed e before;
      all = a.all ∙ sym (append-nil (a.answered ++ at ∷ []));
      goes_on = goes_past r es js at before a e is answered;
      ends = (subst (λ (o : Option ℕ). IsWalk r (resumed e before) rest o) none walks.fault, walks.few);
    }

-- too many states after it
pub next_over : (r : Rules) (es : List HistoryEvent) (js : List ℕ) (at : ℕ) (before : List Sight)
    → IsAt r es js at before
    → IsNextOver r es at before → IsOver r es
next_over r es js at before a (e, is, answered, over) = record {
  answered = a.answered ++ at ∷ [];
  number = at + 1;
  states = resumed e before;
  goes_on = goes_past r es js at before a e is answered;
  over = over;
}

-- too many states before any
pub first_over : (r : Rules) (es : List HistoryEvent) → IsTooMuch r (first_sight ∷ []) es → IsOver r es
first_over r es over = record {
  answered = [];
  number = 0;
  states = first_sight ∷ [];
  goes_on = (refl, refl);
  over = over;
}

-- a legal history has none
pub no_faults : (r : Rules) (es : List HistoryEvent) → IsLegal r es → (IsTooMuch r (first_sight ∷ []) es → ⊥)
    → AreFaults r es []
no_faults r es legal few = record {
  answered = [];
  last = [];
  number = 0;
  states = first_sight ∷ [];
  all = refl;
  goes_on = (refl, refl);
  ends = (on_legal r es legal, few);
}

-- too many states before any fault, as far as the judge goes
pub over_for : (x : Extent) (r : Rules) (es : List HistoryEvent) → IsTooMuch r (first_sight ∷ []) es
    → IsOverFor x r es
over_for First r es over = over
over_for All r es over = first_over r es over

-- no fault is told of a legal history
pub none_told : (x : Extent) (r : Rules) (es fs : List HistoryEvent) (o : Option ℕ) → fs ≡ es → o ≡ None
    → IsVerdict r fs o
    → (IsTooMuch r (first_sight ∷ []) fs → ⊥) → AreTold x r es []
none_told First r es fs o same none v few = omega arith
none_told All r es fs o same none v few = subst (λ (l : List HistoryEvent). AreFaults r l []) same
    (no_faults r fs (subst (λ (q : Option ℕ). IsVerdict r fs q) none v) few)

-- the first fault, as it is found
pub start_at : (r : Rules) (es fs : List HistoryEvent) (o : Option ℕ) (i : ℕ) (before : List Sight) → fs ≡ es
    → o ≡ Some i
    → IsVerdict r fs o → AreStatesLeft r (first_sight ∷ []) (followed fs o) before
    → (IsTooMuch r (first_sight ∷ []) fs → ⊥) → IsAt r es (i ∷ []) i before
start_at r es fs o i before same some v left few =
    subst (λ (l : List HistoryEvent). IsAt r l (i ∷ []) i before) same
    (first_at r fs i before (subst (λ (q : Option ℕ). IsVerdict r fs q) some v)
    (subst (λ (q : Option ℕ). AreStatesLeft r (first_sight ∷ []) (followed fs q) before) some left) few)
