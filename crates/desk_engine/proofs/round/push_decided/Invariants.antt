use Rattle.std.proofs.Common.{◌≡◌, ◌++◌, take}
use Rattle.std.specs.Prelude.{map}
use Rattle.log_outcomes.specs.declared.doubts.LoggedDecision.{LoggedDecision}
use Rattle.desk_engine.proofs.round.push_decided.Given as goal

-- the cases of the decisions so far come after those that were there
abbrev pub invariant-loop-decision : goal.invariant-loop-decision
invariant-loop-decision l =
    l.cases.items ≡ l.fn.cases.items ++ map (λ (d : LoggedDecision). d.case)
    (take l.decision-index l.decisions)
