use Rattle.kv_manager.specs.Resources.{sight_of}
use Rattle.sub_process.specs.Subordinates.{seen}
use Rattle.tree_process.proofs.Holdings.{manager_kept, manager_restarts}
use Rattle.tree_process.proofs.restarting.restart_manager.Goals as goal

pub returns-clause-holdings : goal.returns-clause-holdings
returns-clause-holdings g c = manager_restarts (seen sight_of c.args.manager.now)
    (seen sight_of c.restart.new.self)
    c.args.keep c.restart.result c.restart.ensures.writes

pub returns-clause-kept : goal.returns-clause-kept
returns-clause-kept g c = manager_kept (seen sight_of c.args.manager.now) (seen sight_of c.restart.new.self)
    c.restart.result c.restart.ensures.kept
