use Rattle.xa_engine.proofs.Runs.{calls_end, calls_start}
use Rattle.xa_engine.proofs.calls.call_branch.Goals as goal

pub returns-in-Start : goal.returns-in-Start
returns-in-Start c =
    calls_start c.args.call c.args.manager.now c.start.new.self c.args.thread c.args.xid.now c.args.flags.0
    c.start.result c.in-Start.is
    c.start.ensures.answer

pub returns-in-End : goal.returns-in-End
returns-in-End c =
    calls_end c.args.call c.args.manager.now c.end.new.self c.args.thread c.args.xid.now
    c.args.flags.0 c.end.result c.in-End.is
    c.end.ensures.answer
