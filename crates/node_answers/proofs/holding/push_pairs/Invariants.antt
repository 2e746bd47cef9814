use Rattle.std.proofs.Common.{◌≡◌, ◌++◌, take}
use Rattle.node_answers.specs.Texts.{pairs_text}
use Rattle.node_answers.proofs.holding.push_pairs.Given as goal

abbrev pub invariant-loop-key : goal.invariant-loop-key
invariant-loop-key l = l.out.items ≡ l.initial.out.items ++ pairs_text (take l.key-index l.pairs)
