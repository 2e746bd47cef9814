use Rattle.std.proofs.Common.{take}
use Rattle.node_engine.specs.Answers.{state_of}
use Rattle.desk_engine.specs.Turns.{AskedAbout}
use Rattle.desk_engine.proofs.round.ask_all.Given as goal

-- the cases so far were asked about, and what is told of them is written
abbrev pub invariant-loop-case : goal.invariant-loop-case
invariant-loop-case g l =
    AskedAbout (state_of l.fn.serving) (take l.case-index l.cases) (state_of l.serving)
    (g.W.Write.contents l.fn.writer) (g.W.Write.contents l.writer)
