use Rattle.kv_state.specs.Works.{KeyStoreWorksIdle}
use Rattle.resource_manager.specs.Idle.{Idles, WorksIdle}
use Rattle.resource_manager.proofs.Idle.{still_idle}
use Rattle.kv_manager.specs.Resources.{sight_of}
use Rattle.kv_manager.specs.Sights.{SameKv}
use Rattle.kv_manager.specs.Turns.{KvCalls}
use Rattle.kv_manager.proofs.Deciding.{map_err}
use Rattle.kv_manager.proofs.Keeping.{map_ok}
use Rattle.kv_manager.proofs.Resources.{same_sight, works_idle}
use Rattle.kv_manager.proofs.resource.KvManagerResourceManager.work_idle.Goals as goal

pub returns-clause-ok : goal.returns-clause-ok
returns-clause-ok g c =
    map_ok (λ done. KvCalls c.args.self.now c.work_idle.new.self ⊥
    (λ before behind. KeyStoreWorksIdle before behind c.args.xid.now c.args.op.now done))
    (WorksIdle (sight_of c.args.self.now) (sight_of c.work_idle.new.self) c.args.xid.now c.args.op.now)
    c.work_idle.result c.work_idle.ensures.ok
    (λ done made. works_idle c.args.self.now c.work_idle.new.self c.args.xid.now c.args.op.now done
    c.requires.idle c.requires.up c.requires.state made)

pub returns-clause-err : goal.returns-clause-err
returns-clause-err g c =
    map_err (λ e. SameKv c.args.self.now c.work_idle.new.self)
    (λ e. Idles (sight_of c.args.self.now) (sight_of c.work_idle.new.self) c.args.xid.now)
    c.work_idle.result
    (λ e stays. still_idle (sight_of c.args.self.now) (sight_of c.work_idle.new.self) c.args.xid.now
    c.requires.idle c.requires.state (same_sight c.args.self.now c.work_idle.new.self stays))
    c.work_idle.ensures.err
