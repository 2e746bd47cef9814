use Rattle.std.proofs.Common.{◌≡◌}
use Rattle.xa_words.specs.code
use Rattle.xa_assoc.specs.Answers.{OpensManager}
use Rattle.kv_manager.proofs.Resources.{called}
use Rattle.kv_manager.proofs.resource.KvManagerResourceManager.open.Goals as goal

pub returns : goal.returns
returns g c =
    called c.args.self.now c.open.new.self (c.open.result ≡ code.RmFail)
    (λ old new. OpensManager old new c.args.flags.0 c.args.migrates c.open.result) c.open.ensures
