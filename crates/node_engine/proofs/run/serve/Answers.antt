use Rattle.std.proofs.Common.{inl, inr}
use Rattle.node_engine.specs.Answers.{state_of}
use Rattle.node_engine.specs.Runs.{stand}
use Rattle.node_engine.proofs.run.serve.Goals as goal

pub returns-in-Err-clause-cut : goal.returns-in-Err-clause-cut
returns-in-Err-clause-cut g c = inl (c.in-Err.ensures.stops (g.R.Read.remaining c.args.reader.now))
