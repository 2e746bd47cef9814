use Rattle.xa_assoc.specs.Answers.{BeginsIdle}
use Rattle.kv_state.specs.Stores.{MovesTables}
use Rattle.resource_manager.specs.Idle.{HasBegun}
use Rattle.kv_manager.specs.Resources.{sight_of}
use Rattle.kv_manager.specs.Turns.{KvCalls}
use Rattle.kv_manager.proofs.Keeping.{map_ok}
use Rattle.kv_manager.proofs.Resources.{begun_idle}
use Rattle.kv_manager.proofs.resource.KvManagerResourceManager.begin_idle.Goals as goal

pub returns-clause-ok : goal.returns-clause-ok
returns-clause-ok g c =
    map_ok (λ begun. KvCalls c.args.self.now c.begin_idle.new.self ⊥
    (λ before behind. MovesTables before behind (λ old new. BeginsIdle old new c.args.xid.now begun)))
    (HasBegun (sight_of c.args.self.now) (sight_of c.begin_idle.new.self) c.args.xid.now)
    c.begin_idle.result c.begin_idle.ensures.begun
    (λ begun made. begun_idle c.args.self.now c.begin_idle.new.self c.args.xid.now begun c.requires.idle
    c.requires.up made)
