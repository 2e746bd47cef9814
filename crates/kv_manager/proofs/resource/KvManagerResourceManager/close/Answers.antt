use Rattle.std.proofs.Common.{◌≡◌}
use Rattle.xa_words.specs.code
use Rattle.xa_assoc.specs.Answers.{Closes}
use Rattle.kv_manager.proofs.Resources.{called}
use Rattle.kv_manager.proofs.resource.KvManagerResourceManager.close.Goals as goal

pub returns : goal.returns
returns g c =
    called c.args.self.now c.close.new.self (c.close.result ≡ code.RmFail)
    (λ old new. Closes old new c.args.flags.0 c.close.result) c.close.ensures
