use Rattle.std.proofs.Common.{◌≡◌, ◌++◌, take}
use Rattle.node_answers.specs.Texts.{decisions_text}
use Rattle.node_answers.proofs.text.push_decisions.Given as goal

abbrev pub invariant-loop-decision : goal.invariant-loop-decision
invariant-loop-decision l = l.out.items ≡ l.initial.out.items
    ++ decisions_text (take l.decision-index l.decisions)
