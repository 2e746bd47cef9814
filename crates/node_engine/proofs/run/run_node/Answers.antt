use Rattle.std.proofs.Common.{inl}
use Rattle.node_engine.specs.Answers.{state_of}
use Rattle.node_engine.proofs.Runs.{closes_all, in_order, not_in_order}
use Rattle.node_engine.specs.Runs.{stand}
use Rattle.node_engine.proofs.run.run_node.Goals as goal

pub returns-in-Ok-clause-written : goal.returns-in-Ok-clause-written
returns-in-Ok-clause-written g c =
    in_order g.L.LogStore.bytes g.L.LogStore.forced g.L.LogStore.failures
    (stand (g.R.Read.remaining c.args.reader.now) (g.W.Write.contents c.args.writer.now)
    (state_of c.args.serving))
    c.args.opening.now c.in-Ok.by (g.R.Read.remaining c.serve.new.reader)
    (g.W.Write.contents c.serve.new.writer)
    (state_of c.serve.new.serving) c.in-Ok.ensures.ends c.finish.result
    (g.W.Write.contents c.finish.new.writer)
    c.finish.ensures.closes c.finish.ensures.writes

pub returns-in-Ok-clause-forced : goal.returns-in-Ok-clause-forced
returns-in-Ok-clause-forced g c =
    closes_all g.L.LogStore.bytes g.L.LogStore.forced g.L.LogStore.failures
    (state_of c.serve.new.serving).core
    c.finish.result c.finish.ensures.closes

pub returns-in-Ok-clause-cut : goal.returns-in-Ok-clause-cut
returns-in-Ok-clause-cut g c =
    not_in_order g.L.LogStore.bytes g.L.LogStore.forced g.L.LogStore.failures
    (stand (g.R.Read.remaining c.args.reader.now) (g.W.Write.contents c.args.writer.now)
    (state_of c.args.serving))
    c.args.opening.now c.in-Ok.by (g.R.Read.remaining c.serve.new.reader)
    (g.W.Write.contents c.serve.new.writer)
    (state_of c.serve.new.serving) c.in-Ok.ensures.ends c.finish.result
    (g.W.Write.contents c.finish.new.writer)
    c.finish.ensures.err

pub returns-in-Err-clause-cut : goal.returns-in-Err-clause-cut
returns-in-Err-clause-cut g c = (state_of c.serve.new.serving, inl c.in-Err.ensures.cut)
