use Rattle.std.proofs.Common.{refl}
use Rattle.xa_tables.specs.declared.call.Verb.TheVariants.{Commit}
use Rattle.resource_manager.specs.Ends.{ManagerFinishes}
use Rattle.kv_manager.specs.Resources.{sight_of}
use Rattle.kv_manager.specs.Turns.{KvFinishes}
use Rattle.kv_manager.proofs.Keeping.{map_ok}
use Rattle.kv_manager.proofs.Resources.{finished}
use Rattle.kv_manager.proofs.resource.KvManagerResourceManager.commit.Goals as goal

pub returns-clause-answer : goal.returns-clause-answer
returns-clause-answer g c =
    map_ok (KvFinishes c.args.self.now c.commit.new.self Commit c.args.xid.now c.args.flags.0)
    (ManagerFinishes (sight_of c.args.self.now) (sight_of c.commit.new.self) Commit
    c.args.xid.now c.args.flags.0)
    c.commit.result c.commit.ensures.answer
    (λ answer made. finished c.args.self.now c.commit.new.self Commit c.args.xid.now
    c.args.flags.0 answer refl made)
