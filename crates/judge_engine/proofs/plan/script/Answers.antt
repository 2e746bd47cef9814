use Rattle.judge_engine.proofs.Plans.{plan_more}
use Rattle.judge_engine.proofs.plan.script.Goals as goal

pub loop-i-preserved : goal.loop-i-preserved
loop-i-preserved c = plan_more c.args.seed c.loop-i.i c.loop-i.out.items c.push_call.new.out.items
    c.in_ok-call.call
    c.loop-i.invariant c.in_ok-call.ensures c.in_ok-push_call.ensures
