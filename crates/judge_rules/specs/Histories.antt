-- Which histories a resource manager may have.
use Rattle.std.specs.Prelude.{◌≡◌, List, [], ◌∷◌, Contains}
use Rattle.judge_state.specs.Sights.{Sight, first_sight}
use Rattle.judge_rules.specs.declared.calls.HistoryEvent.{HistoryEvent}
use Rattle.judge_rules.specs.declared.words.Rules.{Rules}
use Rattle.judge_rules.specs.Steps.{next}

-- a state may follow another, by a call and its answer
abbrev pub Step : Rules → Sight → HistoryEvent → Sight → Type 0
Step r s e t = Contains (next r s e.call e.answer) t

-- a history leads from a state to another: there are states between them, each next one by its call and
-- answer
abbrev pub JudgeLeads : Rules → Sight → List HistoryEvent → Sight → Type 0
JudgeLeads r s [] t = s ≡ t
JudgeLeads r s (e ∷ es) t = (u : Sight) × Step r s e u × JudgeLeads r u es t

-- a history is legal: it leads from the first state to some state
abbrev pub IsLegal : Rules → List HistoryEvent → Type 0
IsLegal r es = (t : Sight) × JudgeLeads r first_sight es t
