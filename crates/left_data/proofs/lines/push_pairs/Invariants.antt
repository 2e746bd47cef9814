use Rattle.std.proofs.Common.{◌≡◌, ◌++◌, take}
use Rattle.left_data.specs.Texts.{pairs_text}
use Rattle.left_data.proofs.lines.push_pairs.Given as goal

abbrev pub invariant-loop-key : goal.invariant-loop-key
invariant-loop-key l = l.out.items ≡ l.initial.out.items ++ pairs_text l.process (take l.key-index l.pairs)
