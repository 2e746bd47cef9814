use Rattle.std.proofs.lemmas.Result.{IfOk-weaker}
use Rattle.xa_tables.specs.declared.call.Verb.TheVariants.{Prepare}
use Rattle.resource_manager.specs.Ends.{ManagerFinishes}
use Rattle.test_manager.specs.Sights.{limited}
use Rattle.test_manager.proofs.Limited.{finishes_limited}
use Rattle.test_manager.proofs.manager.RefusingManager.prepare_told.Goals as goal

pub returns-clause-answer : goal.returns-clause-answer
returns-clause-answer g c =
    let old = g.M.ResourceManager.sight c.args.self.now.manager in
    let new = g.M.ResourceManager.sight c.prepare.new.self in
    IfOk-weaker c.prepare.result (ManagerFinishes old new Prepare c.args.xid.now c.args.flags.0)
    (ManagerFinishes (limited old) (limited new) Prepare c.args.xid.now c.args.flags.0)
    (λ answer made. finishes_limited old new Prepare c.args.xid.now c.args.flags.0 answer made)
    c.prepare.ensures.answer
