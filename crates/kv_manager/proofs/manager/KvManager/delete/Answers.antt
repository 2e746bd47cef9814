use Rattle.std.proofs.Common.{None}
use Rattle.key_lists.specs.declared.holders.Mode.TheVariants.{Exclusive}
use Rattle.kv_state.specs.Works.{IsRefusedWork, WritesKey, work_refusal}
use Rattle.kv_manager.specs.Sights.{KvSight}
use Rattle.kv_manager.proofs.Keeping.{KeepsPromises, either_way, kept_by, refused_same, same_promises, wrote_promises}
use Rattle.kv_manager.proofs.manager.KvManager.delete.Goals as goal

pub invariant_of-self : goal.invariant_of-self
invariant_of-self g c =
    let s : KvSight = record {
      store = c.self.inside.store;
      log = c.self.inside.log;
      boot = c.self.inside.boot;
    } in
    kept_by s c.delete.new.self c.self.invariant
    (either_way (λ done. WritesKey c.self.inside.store c.delete.new.self c.args.thread c.args.key.now None)
    (λ e. IsRefusedWork c.self.inside.store c.delete.new.self
    (work_refusal c.self.inside.store c.args.thread c.args.key.now None Exclusive) e)
    (KeepsPromises c.self.inside.store c.delete.new.self) c.delete.result
    c.delete.ensures.ok c.delete.ensures.err
    (λ done wrote. wrote_promises c.self.inside.store c.delete.new.self
    c.args.thread c.args.key.now None wrote)
    (λ e refused. same_promises c.self.inside.store c.delete.new.self
    (refused_same c.self.inside.store c.delete.new.self
    (work_refusal c.self.inside.store c.args.thread c.args.key.now None Exclusive) e refused)))
