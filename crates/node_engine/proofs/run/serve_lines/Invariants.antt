use Rattle.protocol_words.specs.Types.{AnyReaction}
use Rattle.node_engine.specs.Answers.{state_of}
use Rattle.node_engine.specs.Runs.{Served, Stand, stand}
use Rattle.node_engine.proofs.run.serve_lines.Given as goal

-- what was answered before is still answered
abbrev pub invariant-loop : goal.invariant-loop
invariant-loop g l = (start : Stand) → (opening : AnyReaction)
    → Served start opening
    (stand (g.R.Read.remaining l.initial.reader) (g.W.Write.contents l.initial.writer)
    (state_of l.initial.serving))
    → Served start opening (stand (g.R.Read.remaining l.reader) (g.W.Write.contents l.writer)
    (state_of l.serving))
