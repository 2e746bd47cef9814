use Rattle.std.proofs.Common.{rules, ◌≡◌, true, false, refl, sym, subst, ◌∙◌, IfOk}
use Rattle.xa_tables.specs.declared.states.BranchState.TheVariants.{S2}
use Rattle.kv_state.specs.Stores.{SameKeyStore, state_of}
use Rattle.kv_state.specs.Works.{KeyStoreWorksIdle}
use Rattle.kv_manager.specs.Sights.{KvSight}
use Rattle.kv_manager.specs.Turns.{KvCalls}
use Rattle.kv_manager.proofs.Keeping.{KeepsPromises, either_way, kept_by, map_ok, same_promises, works_promises}
use Rattle.kv_manager.proofs.manager.KvManager.work_idle.Goals as goal

pub invariant_of-self : goal.invariant_of-self
invariant_of-self g c =
    let s : KvSight = record {
      store = c.self.inside.store;
      log = c.self.inside.log;
      boot = c.self.inside.boot;
    } in
    let at : state_of s.store c.args.xid.now ≡ S2 = search rules in
    kept_by s c.work_idle.new.self c.self.invariant
    (either_way (KeyStoreWorksIdle c.self.inside.store c.work_idle.new.self c.args.xid.now c.args.op.now)
    (λ e. SameKeyStore c.self.inside.store c.work_idle.new.self)
    (KeepsPromises c.self.inside.store c.work_idle.new.self) c.work_idle.result
    c.work_idle.ensures.ok c.work_idle.ensures.err
    (λ done made. works_promises c.self.inside.store c.work_idle.new.self c.args.xid.now c.args.op.now done
    at made)
    (λ e stays. same_promises c.self.inside.store c.work_idle.new.self stays))

pub returns-clause-ok : goal.returns-clause-ok
returns-clause-ok g c =
    let s : KvSight = record {
      store = c.self.inside.store;
      log = c.self.inside.log;
      boot = c.self.inside.boot;
    } in
    let after : KvSight = record {
      store = c.work_idle.new.self;
      log = c.self.inside.log;
      boot = c.self.inside.boot;
    } in
    let works : s.log.sight.failed ≡ false = search rules in
    subst (λ v. IfOk c.work_idle.result (λ done. KvCalls v after ⊥
    (λ before behind. KeyStoreWorksIdle before behind c.args.xid.now c.args.op.now done))) c.self.view_is
    (map_ok (KeyStoreWorksIdle s.store after.store c.args.xid.now c.args.op.now)
    (λ done. KvCalls s after ⊥ (λ before behind. KeyStoreWorksIdle before behind c.args.xid.now
    c.args.op.now done))
    c.work_idle.result c.work_idle.ensures.ok
    (λ done made. record {
      failed = λ no_more. absurd (let never : true ≡ false = sym no_more ∙ works in cc);
      works = λ stands. made;
      log = refl;
      boot = refl;
    }))
