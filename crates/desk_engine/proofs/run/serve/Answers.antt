use Rattle.std.proofs.Common.{inl}
use Rattle.node_engine.specs.Answers.{state_of}
use Rattle.node_engine.specs.Runs.{stand}
use Rattle.desk_engine.specs.Weaves.{StopsFirst}
use Rattle.desk_engine.proofs.Weaving.{or_breaks}
use Rattle.desk_engine.proofs.run.serve.Goals as goal

pub returns-in-Ok-clause-breaks : goal.returns-in-Ok-clause-breaks
returns-in-Ok-clause-breaks g c =
    let start = stand (g.R.Read.remaining c.args.reader.now) (g.W.Write.contents c.args.writer.now)
    (state_of c.args.serving.now) in
    let now = stand (g.R.Read.remaining c.take_turns.new.reader) (g.W.Write.contents c.take_turns.new.writer)
    (state_of c.take_turns.new.serving) in
    or_breaks c.take_turns.result (StopsFirst start c.args.opening.now now) c.args.watch.now.ways start
    c.args.opening.now
    (stand (g.R.Read.remaining c.args.reader.now) (g.W.Write.contents c.show_opening.new.writer)
    (state_of c.show_opening.new.serving))
    now (c.in-Ok.ensures.ok c.args.watch.now.ways (g.R.Read.remaining c.args.reader.now))
    c.take_turns.ensures.breaks

pub returns-in-Err-clause-breaks : goal.returns-in-Err-clause-breaks
returns-in-Err-clause-breaks g c = inl (c.in-Err.ensures.stops (g.R.Read.remaining c.args.reader.now))
