use Rattle.std.proofs.Common.{arith}
use Rattle.judge_script.proofs.Nothing.{no_names}
use Rattle.judge_script.proofs.Spellings.{names_more}
use Rattle.judge_script.proofs.answers.xids_of.Goals as goal

pub loop-word-preserved : goal.loop-word-preserved
loop-word-preserved c = rw c.in_ok-push-in-Some.ensures.items
    (names_more c.args.words.now c.loop-word.word-index c.loop-word.xids.items c.in-Some.xid (omega arith)
    c.loop-word.invariant c.in-Some.ensures.found)

pub returns-in-None-clause-none : goal.returns-in-None-clause-none
returns-in-None-clause-none c =
    no_names c.args.words.now c.loop-word.word-index (omega arith) c.in-None.ensures.none
