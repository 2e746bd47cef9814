use Rattle.xa_assoc.specs.Answers.{Recovers, map_ok}
use Rattle.kv_state.specs.Stores.{MovesTables, SameKeyStore, is_decided}
use Rattle.kv_state.proofs.Moves.{recovers_keep}
use Rattle.kv_manager.specs.Sights.{KvSight}
use Rattle.kv_manager.proofs.Keeping.{KeepsPromises, either_way, is_prepared, kept_by, moved_promises, same_promises}
use Rattle.kv_manager.proofs.Staying.{recovers_doubts}
use Rattle.kv_manager.proofs.manager.KvManager.recover.Goals as goal

pub invariant_of-self : goal.invariant_of-self
invariant_of-self g c =
    let s : KvSight = record {
      store = c.self.inside.store;
      log = c.self.inside.log;
      boot = c.self.inside.boot;
    } in
    kept_by s c.recover.new.self c.self.invariant
    (either_way (λ answer. MovesTables c.self.inside.store c.recover.new.self
    (λ old new. Recovers old new c.args.thread c.args.count c.args.flags.0 (map_ok answer)))
    (λ e. SameKeyStore c.self.inside.store c.recover.new.self)
    (KeepsPromises c.self.inside.store c.recover.new.self) c.recover.result
    c.recover.ensures.answer c.recover.ensures.err
    (λ answer made. moved_promises c.self.inside.store c.recover.new.self
    (recovers_doubts _ _ c.args.thread c.args.count c.args.flags.0 (map_ok answer) made.tables)
    (recovers_keep is_prepared _ _ c.args.thread c.args.count c.args.flags.0 (map_ok answer) made.tables)
    (recovers_keep is_decided _ _ c.args.thread c.args.count c.args.flags.0 (map_ok answer) made.tables)
    made.writes made.versions made.decisions)
    (λ e stays. same_promises c.self.inside.store c.recover.new.self stays))
