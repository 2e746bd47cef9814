use Rattle.std.proofs.Common.{rules, ◌≡◌, true, false, refl, sym, subst, ◌∙◌, IfOk}
use Rattle.xa_assoc.specs.Answers.{BeginsIdle}
use Rattle.kv_state.specs.Stores.{MovesTables, SameKeyStore}
use Rattle.kv_manager.specs.Sights.{KvSight}
use Rattle.kv_manager.specs.Turns.{KvCalls}
use Rattle.kv_manager.proofs.Keeping.{KeepsPromises, begins_promises, either_way, kept_by, map_ok, same_promises}
use Rattle.kv_manager.proofs.manager.KvManager.begin_idle.Goals as goal

pub invariant_of-self : goal.invariant_of-self
invariant_of-self g c =
    let s : KvSight = record {
      store = c.self.inside.store;
      log = c.self.inside.log;
      boot = c.self.inside.boot;
    } in
    kept_by s c.begin_idle.new.self c.self.invariant
    (either_way (λ begun. MovesTables c.self.inside.store c.begin_idle.new.self
    (λ old new. BeginsIdle old new c.args.xid.now begun))
    (λ e. SameKeyStore c.self.inside.store c.begin_idle.new.self)
    (KeepsPromises c.self.inside.store c.begin_idle.new.self) c.begin_idle.result
    c.begin_idle.ensures.begun c.begin_idle.ensures.err
    (λ begun made. begins_promises c.self.inside.store c.begin_idle.new.self c.args.xid.now begun made)
    (λ e stays. same_promises c.self.inside.store c.begin_idle.new.self stays))

pub returns-clause-begun : goal.returns-clause-begun
returns-clause-begun g c =
    let s : KvSight = record {
      store = c.self.inside.store;
      log = c.self.inside.log;
      boot = c.self.inside.boot;
    } in
    let after : KvSight = record {
      store = c.begin_idle.new.self;
      log = c.self.inside.log;
      boot = c.self.inside.boot;
    } in
    let works : s.log.sight.failed ≡ false = search rules in
    subst (λ v. IfOk c.begin_idle.result (λ begun. KvCalls v after ⊥
    (λ before behind. MovesTables before behind
    (λ old new. BeginsIdle old new c.args.xid.now begun)))) c.self.view_is
    (map_ok (λ begun. MovesTables s.store after.store (λ old new. BeginsIdle old new c.args.xid.now begun))
    (λ begun. KvCalls s after ⊥ (λ before behind. MovesTables before behind
    (λ old new. BeginsIdle old new c.args.xid.now begun))) c.begin_idle.result c.begin_idle.ensures.begun
    (λ begun made. record {
      failed = λ no_more. absurd (let never : true ≡ false = sym no_more ∙ works in cc);
      works = λ stands. made;
      log = refl;
      boot = refl;
    }))
