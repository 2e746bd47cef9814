use Rattle.std.proofs.Common.{◌≡◌, ◌++◌, take}
use Rattle.node_answers.specs.Texts.{doubts_text}
use Rattle.node_answers.proofs.text.push_doubts.Given as goal

abbrev pub invariant-loop-case : goal.invariant-loop-case
invariant-loop-case l = l.out.items ≡ l.initial.out.items ++ doubts_text (take l.case-index l.cases)
