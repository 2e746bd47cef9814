use Rattle.std.proofs.Common.{◌≡◌}
use Rattle.xa_words.specs.code
use Rattle.resource_manager.specs.Sights.{ManagerSight}
use Rattle.sub_process.proofs.Opened.{opened, opened_data, opened_tied}
use Rattle.sub_process.proofs.subordinate.Subordinate.open.Goals as goal

pub invariant_of-result : goal.invariant_of-result
invariant_of-result g c =
    let old : ManagerSight = g.M.ResourceManager.sight c.args.manager in
    let new : ManagerSight = g.M.ResourceManager.sight c.open.new.self in
    opened_tied old new c.requires.new (λ answer. answer ≡ code.RmFail) c.open.result
    c.open.ensures c.header.result
    c.args.me c.args.parent c.args.tree c.new.result c.header.ensures
    c.new.ensures.tickets c.new.ensures.branches c.requires.own

pub returns-clause-empty : goal.returns-clause-empty
returns-clause-empty g c =
    let old : ManagerSight = g.M.ResourceManager.sight c.args.manager in
    let new : ManagerSight = g.M.ResourceManager.sight c.open.new.self in
    opened_data old new c.requires.new (λ answer. answer ≡ code.RmFail) c.open.result c.open.ensures

pub returns-clause-opened : goal.returns-clause-opened
returns-clause-opened g c =
    let old : ManagerSight = g.M.ResourceManager.sight c.args.manager in
    let new : ManagerSight = g.M.ResourceManager.sight c.open.new.self in
    opened old new c.requires.new (λ answer. answer ≡ code.RmFail) c.open.result c.open.ensures c.args.me
    c.args.parent c.args.tree c.new.result
    c.new.ensures.tickets c.new.ensures.branches c.requires.own
