use Rattle.node_engine.specs.Answers.{state_of}
use Rattle.desk_engine.specs.Groups.{GatherBreaks}
use Rattle.desk_engine.proofs.Weaving.{passed_on}
use Rattle.desk_engine.proofs.gathering.gather.Goals as goal

pub returns-in_err-ended-clause-breaks : goal.returns-in_err-ended-clause-breaks
returns-in_err-ended-clause-breaks g c =
    passed_on c.from_residual.result c.in_err-ended.field-0.0
    (GatherBreaks c.args.ways (state_of c.args.serving.now) (state_of c.take_line.new.serving)
    (g.R.Read.remaining c.args.reader.now) c.take_line.new.group.told.items)
    c.from_residual.ensures.1
    (c.in_err-ended.ensures.breaks (state_of c.args.serving.now) (g.R.Read.remaining c.args.reader.now)
    c.loop.invariant.gathered)
