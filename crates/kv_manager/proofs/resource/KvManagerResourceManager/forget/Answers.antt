use Rattle.std.proofs.Common.{refl}
use Rattle.xa_tables.specs.declared.call.Verb.TheVariants.{Forget}
use Rattle.resource_manager.specs.Ends.{ManagerFinishes}
use Rattle.kv_manager.specs.Resources.{sight_of}
use Rattle.kv_manager.specs.Turns.{KvFinishes}
use Rattle.kv_manager.proofs.Keeping.{map_ok}
use Rattle.kv_manager.proofs.Resources.{finished}
use Rattle.kv_manager.proofs.resource.KvManagerResourceManager.forget.Goals as goal

pub returns-clause-answer : goal.returns-clause-answer
returns-clause-answer g c =
    map_ok (KvFinishes c.args.self.now c.forget.new.self Forget c.args.xid.now c.args.flags.0)
    (ManagerFinishes (sight_of c.args.self.now) (sight_of c.forget.new.self) Forget
    c.args.xid.now c.args.flags.0)
    c.forget.result c.forget.ensures.answer
    (λ answer made. finished c.args.self.now c.forget.new.self Forget c.args.xid.now
    c.args.flags.0 answer refl made)
