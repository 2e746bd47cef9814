use Rattle.std.proofs.Common.{take, map}
use Rattle.judge_script.specs.Answers.{AreNames}
use Rattle.judge_script.proofs.answers.xids_of.Given as goal

abbrev pub invariant-loop-word : goal.invariant-loop-word
invariant-loop-word l = AreNames (take l.word-index (map (λ s. s.now) l.words)) l.xids.items
