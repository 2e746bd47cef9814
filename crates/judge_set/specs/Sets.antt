-- The states that are possible after a front of a history, and the first fault of a history.
use Rattle.std.specs.Prelude.{ℕ, false, ◌+◌, ◌<◌, ◌↔◌, List, length, take, Contains, Option, Some, None}
use Rattle.judge_state.specs.Sights.{Sight}
use Rattle.judge_rules.specs.declared.calls.HistoryEvent.{HistoryEvent}
use Rattle.judge_rules.specs.declared.words.Rules.{Rules}
use Rattle.judge_rules.specs.Histories.{IsLegal, JudgeLeads, Step}
use Rattle.judge_rules.specs.Sets.{AreMany}

-- a state may follow one of these
abbrev pub MayFollow : Rules → List Sight → HistoryEvent → Sight → Type 0
MayFollow r old e t = (s : Sight) × Contains old s × Step r s e t

-- a list has exactly the states that may follow one of these
abbrev pub Follows : Rules → List Sight → HistoryEvent → List Sight → Type 0
Follows r old e new = (t : Sight) → Contains new t ↔ MayFollow r old e t

-- a history may lead from one of these states to a state
abbrev pub MayLead : Rules → List Sight → List HistoryEvent → Sight → Type 0
MayLead r starts es t = (s : Sight) × Contains starts s × JudgeLeads r s es t

-- a list has exactly the states to which a history may lead from one of these
abbrev pub AreStatesLeft : Rules → List Sight → List HistoryEvent → List Sight → Type 0
AreStatesLeft r starts es states = (t : Sight) → Contains states t ↔ MayLead r starts es t

-- a history leads from one of these states to some state
abbrev pub JudgeLeadsOn : Rules → List Sight → List HistoryEvent → Type 0
JudgeLeadsOn r starts es = (s : Sight) × (t : Sight) × Contains starts s × JudgeLeads r s es t

-- from these states the event of this index is the first that leads to none
pub record JudgeStops (r : Rules) (starts : List Sight) (es : List HistoryEvent) (i : ℕ) : Type 0 where
  pub within : i < length es
  pub before : JudgeLeadsOn r starts (take i es)
  pub stops : JudgeLeadsOn r starts (take (i + 1) es) → ⊥

-- from these states a history leads on, or which of its events is the first that leads to none
abbrev pub IsWalk : Rules → List Sight → List HistoryEvent → Option ℕ → Type 0
IsWalk r starts es None = JudgeLeadsOn r starts es
IsWalk r starts es (Some i) = JudgeStops r starts es i

-- the events before the one that leads to no state: all, if there is none
abbrev pub followed : List HistoryEvent → Option ℕ → List HistoryEvent
followed es None = es
followed es (Some i) = take i es

-- after one of these events more states are possible than are gone through
abbrev pub IsTooMuch : Rules → List Sight → List HistoryEvent → Type 0
IsTooMuch r starts es = (i : ℕ) × (i < length es) × AreMany (MayLead r starts (take (i + 1) es))

-- the event of this index is the first fault of a history: what is before it is legal, and with it is not
pub record IsFirstIllegal (r : Rules) (es : List HistoryEvent) (i : ℕ) : Type 0 where
  pub within : i < length es
  pub before : IsLegal r (take i es)
  pub fault : IsLegal r (take (i + 1) es) → ⊥
  pub illegal : IsLegal r es → ⊥

-- what is found of a history: it is legal, or its first fault
abbrev pub IsVerdict : Rules → List HistoryEvent → Option ℕ → Type 0
IsVerdict r es None = IsLegal r es
IsVerdict r es (Some i) = IsFirstIllegal r es i

-- these rules without their promises; the excuses stay
abbrev pub without_promises : Rules → Rules
without_promises r = record r { never = record { heuristics = false; failures = false; rollback = false } }
