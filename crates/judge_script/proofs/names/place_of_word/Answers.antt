use Rattle.std.proofs.Common.{arith, below_more}
use Rattle.judge_script.proofs.Spellings.{absent_text, found_text}
use Rattle.judge_script.proofs.names.place_of_word.Goals as goal

pub returns-then-eq-clause-found : goal.returns-then-eq-clause-found
returns-then-eq-clause-found c =
    found_text c.args.words.now c.loop-i.i c.args.word.now (omega arith) c.if-eq.ensures

pub loop-i-preserved : goal.loop-i-preserved
loop-i-preserved c = below_more _ _ c.loop-i.invariant
    (absent_text c.args.words.now c.loop-i.i c.args.word.now (omega arith) c.if-eq.ensures)
