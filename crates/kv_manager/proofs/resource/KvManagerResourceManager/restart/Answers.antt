use Rattle.resource_manager.specs.Restarting.{ManagerNotRestarted}
use Rattle.kv_manager.specs.Resources.{sight_of}
use Rattle.kv_manager.proofs.Keeping.{made_error}
use Rattle.kv_manager.proofs.Restarted.{not_restarted, restarted}
use Rattle.kv_manager.proofs.resource.KvManagerResourceManager.restart.Goals as goal

pub returns-in_err-_in_doubt-clause-err : goal.returns-in_err-_in_doubt-clause-err
returns-in_err-_in_doubt-clause-err g c =
    made_error (ManagerNotRestarted (sight_of c.args.self.now) (sight_of c.restart.new.self) c.args.keep)
    c.in_err-_in_doubt.field-0.0 c.from_residual.result c.from_residual.ensures.1
    (not_restarted c.args.self.now c.restart.new.self c.args.keep c.in_err-_in_doubt.field-0.0
    c.in_err-_in_doubt.ensures.err)

pub returns-clause-ok : goal.returns-clause-ok
returns-clause-ok g c =
    restarted c.args.self.now c.restart.new.self c.args.keep _ c.in_ok-_in_doubt.ensures.ok
