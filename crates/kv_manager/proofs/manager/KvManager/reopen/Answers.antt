use Rattle.std.proofs.Common.{rules, ◌∷◌, [], sym, subst}
use Rattle.log_text.specs.Made.{frame_record}
use Rattle.log_records.specs.Sights.{LogRestarts, left_by}
use Rattle.kv_state.specs.Remembered.{RemembersData}
use Rattle.kv_state.specs.Stores.{KeySight}
use Rattle.kv_manager.specs.Restarts.{FailsToRestart, IsReady}
use Rattle.kv_manager.specs.Sights.{IsKvManager, KvSight}
use Rattle.kv_manager.proofs.Boots.{ready_counted, ready_ordered}
use Rattle.kv_manager.proofs.Restoring.{kept_restarted, kept_unstarted}
use Rattle.kv_manager.proofs.manager.KvManager.reopen.Goals as goal

pub restart-requires-clause-says : goal.restart-requires-clause-says
restart-requires-clause-says g c =
    subst (λ (v : KvSight). RemembersData (left_by v.log.sight c.args.keep) c.args.remembered)
    (sym c.self.view_is)
    c.requires.says

pub invariant_of-self : goal.invariant_of-self
invariant_of-self g c =
    let s : KvSight = record {
      store = c.self.inside.store;
      log = c.self.inside.log;
      boot = c.self.inside.boot;
    } in
    let ready : IsReady (left_by s.log.sight c.args.keep) c.args.ready.now =
    subst (λ (v : KvSight). IsReady (left_by v.log.sight c.args.keep) c.args.ready.now)
    (sym c.self.view_is) c.requires.ready in
    let why : FailsToRestart s.log c.restart.new.self c.args.keep (frame_record c.args.ready.now.opened)
    c.in_err-restart.field-0.0 = search rules in
    kept_unstarted s c.restart.new.self c.args.keep (frame_record c.args.ready.now.opened) _
    c.self.invariant (ready_ordered (left_by s.log.sight c.args.keep) c.args.ready.now ready)
    (ready_counted (left_by s.log.sight c.args.keep) c.args.ready.now ready)
    why

pub invariant_of-self-2 : goal.invariant_of-self-2
invariant_of-self-2 g c =
    let s : KvSight = record {
      store = c.self.inside.store;
      log = c.self.inside.log;
      boot = c.self.inside.boot;
    } in
    let ready : IsReady (left_by s.log.sight c.args.keep) c.args.ready.now =
    subst (λ (v : KvSight). IsReady (left_by v.log.sight c.args.keep) c.args.ready.now)
    (sym c.self.view_is) c.requires.ready in
    let made : LogRestarts s.log c.restart.new.self c.args.keep
    (frame_record c.args.ready.now.opened ∷ []) = search rules in
    subst (λ (v : KeySight). IsKvManager (record {
      store = v;
      log = c.restart.new.self;
      boot = c.args.ready.now.boot;
    })) (sym c.swap.ensures.x_after)
    (kept_restarted s.log c.restart.new.self c.args.keep c.args.ready.now c.self.invariant.kind ready made)
