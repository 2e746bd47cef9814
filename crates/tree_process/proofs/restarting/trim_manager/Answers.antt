use Rattle.kv_manager.specs.Resources.{sight_of}
use Rattle.sub_process.specs.Subordinates.{seen}
use Rattle.tree_process.proofs.Holdings.{manager_kept, manager_trims}
use Rattle.tree_process.proofs.restarting.trim_manager.Goals as goal

pub returns-clause-holdings : goal.returns-clause-holdings
returns-clause-holdings g c = manager_trims (seen sight_of c.args.manager.now) (seen sight_of c.trim.new.self)
    c.trim.result c.trim.ensures.data

pub returns-clause-kept : goal.returns-clause-kept
returns-clause-kept g c = manager_kept (seen sight_of c.args.manager.now) (seen sight_of c.trim.new.self)
    c.trim.result c.trim.ensures.kept
