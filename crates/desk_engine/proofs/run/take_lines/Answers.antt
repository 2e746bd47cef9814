use Rattle.node_engine.specs.Answers.{state_of}
use Rattle.node_engine.specs.Runs.{stand}
use Rattle.desk_engine.proofs.Weaving.{group_breaks, group_leads, if_group_held}
use Rattle.desk_engine.proofs.run.take_lines.Goals as goal

pub returns-in_err-tell_group-clause-breaks : goal.returns-in_err-tell_group-clause-breaks
returns-in_err-tell_group-clause-breaks g c =
    if_group_held c.args.ways
    (stand (g.R.Read.remaining c.args.reader.now) (g.W.Write.contents c.args.writer.now)
    (state_of c.args.serving.now))
    (stand (g.R.Read.remaining c.gather-gathered.new.reader) (g.W.Write.contents c.tell_group.new.writer)
    (state_of c.gather-gathered.new.serving))
    c.gather-gathered.new.group.told.items c.from_residual.result c.gather-gathered.result
    c.in_err-tell_group.field-0.0
    c.from_residual.ensures.1 c.gather-gathered.ensures.leads c.gather-gathered.ensures.breaks
    c.in_err-tell_group.ensures.err.1
    c.in_err-tell_group.ensures.err.0

pub returns-clause-leads : goal.returns-clause-leads
returns-clause-leads g c =
    group_leads c.args.ways
    (stand (g.R.Read.remaining c.args.reader.now) (g.W.Write.contents c.args.writer.now)
    (state_of c.args.serving.now))
    (stand (g.R.Read.remaining c.gather-gathered.new.reader) (g.W.Write.contents c.tell_group.new.writer)
    (state_of c.gather-gathered.new.serving))
    c.gather-gathered.new.group.told.items c.gather-gathered.result c.gather-gathered.ensures.leads
    c.in_ok-tell_group.ensures.ok

pub returns-clause-breaks : goal.returns-clause-breaks
returns-clause-breaks g c =
    group_breaks c.args.ways
    (stand (g.R.Read.remaining c.args.reader.now) (g.W.Write.contents c.args.writer.now)
    (state_of c.args.serving.now))
    (stand (g.R.Read.remaining c.gather-gathered.new.reader) (g.W.Write.contents c.tell_group.new.writer)
    (state_of c.gather-gathered.new.serving))
    c.gather-gathered.new.group.told.items c.gather-gathered.result c.gather-gathered.ensures.breaks
    c.in_ok-tell_group.ensures.ok
