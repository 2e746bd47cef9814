use Rattle.std.proofs.Common.{Option, refl, subst}
use Rattle.node_engine.specs.Answers.{state_of}
use Rattle.node_engine.specs.declared.run.Ended.{Ended}
use Rattle.node_engine.specs.Runs.{LeadsTo, stand}
use Rattle.node_engine.proofs.run.serve_lines.Goals as goal

pub returns-in-Some-clause-ends : goal.returns-in-Some-clause-ends
returns-in-Some-clause-ends g c = λ start opening h.
    subst (λ (o : Option Ended). LeadsTo o start opening
    (stand (g.R.Read.remaining c.serve_line.new.reader) (g.W.Write.contents c.serve_line.new.writer)
    (state_of c.serve_line.new.serving)))
    c.in-Some.is (c.in_ok-ended.ensures.leads start opening (c.loop.invariant start opening h))

pub returns-clause-stops : goal.returns-clause-stops
returns-clause-stops g c = λ start opening h. record {
  before = stand (g.R.Read.remaining c.loop.reader) (g.W.Write.contents c.loop.writer)
      (state_of c.loop.serving);
  served = c.loop.invariant start opening h;
  state = refl;
  held = refl;
}
