-- All faults of a history, and how the judge goes on after each.
use Rattle.std.specs.Prelude.{◌≡◌, ℕ, ◌+◌, true, false, List, [], ◌∷◌, ◌++◌, drop, length, map, take, slice_get, ◌≤◌, Option, Some, None}
use Rattle.judge_state.specs.Sights.{Sight, first_sight}
use Rattle.judge_rules.specs.declared.calls.HistoryEvent.{HistoryEvent}
use Rattle.judge_rules.specs.declared.words.Rules.{Rules}
use Rattle.judge_rules.specs.Steps.{is_answered}
use Rattle.judge_set.specs.declared.verdict.Walk.{Walk}
use Rattle.judge_set.specs.Resuming.{resumed}
use Rattle.judge_set.specs.Sets.{AreStatesLeft, IsTooMuch, IsWalk, JudgeLeadsOn, JudgeStops, followed}
use Rattle.judge_engine.specs.declared.judging.Extent.{Extent}
use Rattle.judge_engine.specs.declared.judging.Extent.TheVariants.{First, All}
use Rattle.judge_engine.specs.declared.judging.JudgeFault.{JudgeFault}

-- the indices of these faults
abbrev pub indices : List JudgeFault → List ℕ
indices fs = map (λ f. f.index) fs

-- from one of these states the events from a number on lead to none first at this one; the states of a list
-- are possible before it, and nowhere there are more than are gone through
pub record IsFault (r : Rules) (es : List HistoryEvent) (n : ℕ) (starts : List Sight) (j : ℕ)
    (e : HistoryEvent) (before : List Sight) : Type 0 where
  pub steps : ℕ
  pub index : j ≡ n + steps
  pub event : slice_get es j ≡ Some e
  pub stops : JudgeStops r starts (drop n es) steps
  pub left : AreStatesLeft r starts (take steps (drop n es)) before
  pub few : IsTooMuch r starts (drop n es) → ⊥

-- after faults of these indices, each with an answer, the judge goes on with the event of a number, from the
-- states of a list: from those before the last fault, and those that there are if its answer is taken at its
-- word
abbrev pub GoesOn : Rules → List HistoryEvent → ℕ → List Sight → List ℕ → ℕ → List Sight → Type 0
GoesOn r es n starts [] m states = (n ≡ m) × (starts ≡ states)
GoesOn r es n starts (j ∷ js) m states = (e : HistoryEvent) × (before : List Sight)
    × IsFault r es n starts j e before
    × (is_answered e.answer ≡ true) × GoesOn r es (j + 1) (resumed e before) js m states

-- the events from a number on have no fault; or this one, which has no answer, and after which nothing is
-- judged
abbrev pub Ends : Rules → List HistoryEvent → ℕ → List Sight → List ℕ → Type 0
Ends r es m states [] = JudgeLeadsOn r states (drop m es) × (IsTooMuch r states (drop m es) → ⊥)
Ends r es m states (j ∷ js) = (js ≡ []) × ((e : HistoryEvent) × (before : List Sight)
    × IsFault r es m states j e before × (is_answered e.answer ≡ false))

-- these are the indices of all faults of a history
pub record AreFaults (r : Rules) (es : List HistoryEvent) (js : List ℕ) : Type 0 where
  pub answered : List ℕ
  pub last : List ℕ
  pub number : ℕ
  pub states : List Sight
  pub all : js ≡ answered ++ last
  pub goes_on : GoesOn r es 0 (first_sight ∷ []) answered number states
  pub ends : Ends r es number states last

-- the judge came to a fault, with these indices so far, of which its is the last; the states of a list are
-- possible before it
pub record IsAt (r : Rules) (es : List HistoryEvent) (js : List ℕ) (at : ℕ)
    (before : List Sight) : Type 0 where
  pub answered : List ℕ
  pub number : ℕ
  pub starts : List Sight
  pub event : HistoryEvent
  pub all : js ≡ answered ++ at ∷ []
  pub goes_on : GoesOn r es 0 (first_sight ∷ []) answered number starts
  pub fault : IsFault r es number starts at event before

-- after some faults more states are possible than are gone through
pub record IsOver (r : Rules) (es : List HistoryEvent) : Type 0 where
  pub answered : List ℕ
  pub number : ℕ
  pub states : List Sight
  pub goes_on : GoesOn r es 0 (first_sight ∷ []) answered number states
  pub over : IsTooMuch r states (drop number es)

-- a walk along events from one of these states
pub record Walks (r : Rules) (starts : List Sight) (es : List HistoryEvent) (w : Walk) : Type 0 where
  pub fault : IsWalk r starts es w.fault
  pub left : AreStatesLeft r starts (followed es w.fault) w.states.items
  pub few : IsTooMuch r starts es → ⊥

-- how the judge goes on after the fault of an index: by a walk, or not, if it has no answer
abbrev pub IsNext : Rules → List HistoryEvent → ℕ → List Sight → Option Walk → Type 0
IsNext r es at before None = (e : HistoryEvent) × (slice_get es at ≡ Some e) × (is_answered e.answer ≡ false)
IsNext r es at before (Some w) = (e : HistoryEvent) × (slice_get es at ≡ Some e)
    × (is_answered e.answer ≡ true)
    × Walks r (resumed e before) (drop (at + 1) es) w

-- too many states are possible as it goes on
abbrev pub IsNextOver : Rules → List HistoryEvent → ℕ → List Sight → Type 0
IsNextOver r es at before = (e : HistoryEvent) × (slice_get es at ≡ Some e) × (is_answered e.answer ≡ true)
    × IsTooMuch r (resumed e before) (drop (at + 1) es)

-- these faults are told: the first alone, or all
abbrev pub AreTold : Extent → Rules → List HistoryEvent → List ℕ → Type 0
AreTold First r es js = length js ≤ 1
AreTold All r es js = AreFaults r es js

-- too many states are possible, as far as the judge goes
abbrev pub IsOverFor : Extent → Rules → List HistoryEvent → Type 0
IsOverFor First r es = IsTooMuch r (first_sight ∷ []) es
IsOverFor All r es = IsOver r es
