use Rattle.kv_manager.specs.Sights.{KvSight}
use Rattle.kv_manager.proofs.Keeping.{called_promises, closes_one, kept_by}
use Rattle.kv_manager.proofs.manager.KvManager.close.Goals as goal

pub invariant_of-self : goal.invariant_of-self
invariant_of-self g c =
    let s : KvSight = record {
      store = c.self.inside.store;
      log = c.self.inside.log;
      boot = c.self.inside.boot;
    } in
    kept_by s c.close.new.self c.self.invariant
    (called_promises c.self.inside.store c.close.new.self
    (closes_one _ _ c.args.flags.0 c.close.result c.close.ensures.tables)
    c.close.ensures.writes c.close.ensures.versions c.close.ensures.decisions)
