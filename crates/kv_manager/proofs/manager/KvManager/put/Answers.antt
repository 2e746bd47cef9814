use Rattle.std.proofs.Common.{Some}
use Rattle.key_lists.specs.declared.holders.Mode.TheVariants.{Exclusive}
use Rattle.kv_state.specs.Works.{IsRefusedWork, WritesKey, work_refusal}
use Rattle.kv_manager.specs.Sights.{KvSight}
use Rattle.kv_manager.proofs.Keeping.{KeepsPromises, either_way, kept_by, refused_same, same_promises, wrote_promises}
use Rattle.kv_manager.proofs.manager.KvManager.put.Goals as goal

pub invariant_of-self : goal.invariant_of-self
invariant_of-self g c =
    let s : KvSight = record {
      store = c.self.inside.store;
      log = c.self.inside.log;
      boot = c.self.inside.boot;
    } in
    kept_by s c.put.new.self c.self.invariant
    (either_way (λ done. WritesKey c.self.inside.store c.put.new.self c.args.thread
    c.args.key.now (Some c.args.value.now))
    (λ e. IsRefusedWork c.self.inside.store c.put.new.self
    (work_refusal c.self.inside.store c.args.thread c.args.key.now (Some c.args.value.now) Exclusive) e)
    (KeepsPromises c.self.inside.store c.put.new.self) c.put.result c.put.ensures.ok c.put.ensures.err
    (λ done wrote. wrote_promises c.self.inside.store c.put.new.self c.args.thread c.args.key.now
    (Some c.args.value.now) wrote)
    (λ e refused. same_promises c.self.inside.store c.put.new.self
    (refused_same c.self.inside.store c.put.new.self (work_refusal c.self.inside.store c.args.thread
    c.args.key.now (Some c.args.value.now) Exclusive) e refused)))
