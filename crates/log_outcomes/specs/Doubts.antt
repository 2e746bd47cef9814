-- The cases that are in doubt by the records of a log, and those that an operator decided and that wait to be
-- told.
use Rattle.std.specs.Prelude.{not, Some, None, List, [], ◌∷◌, ◌++◌, filter, fold}
use Rattle.protocol.specs.declared.names.Case.{Case}
use Rattle.protocol.specs.declared.names.Outcome.{Outcome}
use Rattle.protocol.specs.declared.records.LogRecord.{LogRecord}
use Rattle.protocol.specs.Names.{same_case}
use Rattle.log_outcomes.specs.declared.doubts.LoggedDecision.{LoggedDecision}
use Rattle.log_outcomes.specs.declared.saying.SayingStage.{SayingStage}
use Rattle.log_outcomes.specs.declared.saying.SayingStage.TheVariants.{Open, Doubt, Decided, Ended, Over}
use Rattle.log_outcomes.specs.Sayings.{Saying, saying_of}

-- Doubts.

-- the others
abbrev pub others_in : Case → List Case → List Case
others_in c cs = filter (λ d. not (same_case c d)) cs

-- the cases in doubt after a record of this one that says so
abbrev pub doubts_by : List Case → Case → SayingStage → List Case
doubts_by cs c Open = cs
doubts_by cs c Doubt = others_in c cs ++ c ∷ []
doubts_by cs c (Decided o) = others_in c cs
doubts_by cs c (Ended o) = others_in c cs
doubts_by cs c Over = others_in c cs

-- the cases in doubt after what any record says
abbrev pub doubts_behind : List Case → Saying → List Case
doubts_behind cs None = cs
doubts_behind cs (Some s) = doubts_by cs s.0 s.1

-- the cases in doubt after a record of the log
abbrev pub doubts_after : List Case → LogRecord → List Case
doubts_after cs l = doubts_behind cs (saying_of l.entry)

-- the cases that are in doubt by these records, in order of their promises
abbrev pub doubts_in : List LogRecord → List Case
doubts_in ls = fold doubts_after [] ls

-- Decisions.

-- the decisions of the others
abbrev pub other_decisions : Case → List LoggedDecision → List LoggedDecision
other_decisions c ds = filter (λ d. not (same_case c d.case)) ds

-- the decisions that wait after a record of this case that says so
abbrev pub decisions_by : List LoggedDecision → Case → SayingStage → List LoggedDecision
decisions_by ds c Open = ds
decisions_by ds c Doubt = other_decisions c ds
decisions_by ds c (Decided o) = other_decisions c ds ++ record { case = c; outcome = o } ∷ []
decisions_by ds c (Ended o) = other_decisions c ds
decisions_by ds c Over = other_decisions c ds

-- the decisions that wait after what any record says
abbrev pub decisions_behind : List LoggedDecision → Saying → List LoggedDecision
decisions_behind ds None = ds
decisions_behind ds (Some s) = decisions_by ds s.0 s.1

-- the decisions that wait after a record of the log
abbrev pub decisions_after : List LoggedDecision → LogRecord → List LoggedDecision
decisions_after ds l = decisions_behind ds (saying_of l.entry)

-- what operators decided by these records of cases that were not told their outcome, in the order of the
-- decisions
abbrev pub decisions_in : List LogRecord → List LoggedDecision
decisions_in ls = fold decisions_after [] ls
