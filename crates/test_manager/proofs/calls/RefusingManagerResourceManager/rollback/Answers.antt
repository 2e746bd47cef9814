use Rattle.std.proofs.lemmas.Result.{IfOk-weaker}
use Rattle.xa_tables.specs.declared.call.Verb.TheVariants.{Rollback}
use Rattle.resource_manager.specs.Ends.{ManagerFinishes}
use Rattle.test_manager.specs.Sights.{limited}
use Rattle.test_manager.proofs.Limited.{finishes_limited}
use Rattle.test_manager.proofs.calls.RefusingManagerResourceManager.rollback.Goals as goal

pub returns-clause-answer : goal.returns-clause-answer
returns-clause-answer g c =
    let old = g.M.ResourceManager.sight c.args.self.now.manager in
    let new = g.M.ResourceManager.sight c.rollback.new.self in
    IfOk-weaker c.rollback.result (ManagerFinishes old new Rollback c.args.xid.now c.args.flags.0)
    (ManagerFinishes (limited old) (limited new) Rollback c.args.xid.now c.args.flags.0)
    (λ answer made. finishes_limited old new Rollback c.args.xid.now c.args.flags.0 answer made)
    c.rollback.ensures.answer
