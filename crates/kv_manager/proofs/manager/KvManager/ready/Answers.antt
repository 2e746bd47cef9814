use Rattle.std.proofs.Common.{IfErr, sym, subst}
use Rattle.std.specs.List.{AllByRecursion}
use Rattle.protocol.specs.declared.names.Kind.TheVariants.{Manager}
use Rattle.log_rules.specs.sound.Sound.{IsSound}
use Rattle.log_records.specs.Sights.{LogState, left_by, records_of}
use Rattle.kv_manager.specs.declared.restart.RecordsError.TheVariants.{Exhausted, Unfit}
use Rattle.kv_manager.specs.Restarts.{AreLastBoots, NotReady, KvNotRebuilt}
use Rattle.kv_manager.specs.Sights.{IsKvManager, KvSight}
use Rattle.kv_manager.proofs.Boots.{left_fits, left_spent}
use Rattle.kv_manager.proofs.manager.KvManager.ready.Goals.{in-Ok, in-Err-Memory, in-Err-Exhausted}
use Rattle.kv_manager.proofs.manager.KvManager.ready.Goals as goal

pub invariant_of-self : goal.invariant_of-self
invariant_of-self g c =
    subst (λ (l : LogState). IsKvManager (record {
      store = c.self.inside.store;
      log = l;
      boot = c.self.inside.boot;
    }))
    (sym c.made_ready.ensures.stays) c.self.invariant

pub unreachable-requires : goal.unreachable-requires
unreachable-requires g c =
    subst (KvNotRebuilt (left_by c.self.inside.log.sight c.args.keep)) c.in-Err-Device.field-0-is
    c.in-Err-Device.ensures.err

pub unreachable-requires-in-Err-Unfit : goal.unreachable-requires-in-Err-Unfit
unreachable-requires-in-Err-Unfit g c =
    let s : KvSight = record {
      store = c.self.inside.store;
      log = c.self.inside.log;
      boot = c.self.inside.boot;
    } in
    let why : KvNotRebuilt (left_by s.log.sight c.args.keep) Unfit =
    subst (KvNotRebuilt (left_by s.log.sight c.args.keep)) c.in-Err-Unfit.field-0-is
    c.in-Err-Unfit.ensures.err in
    let sound : AllByRecursion (IsSound Manager) (records_of s.log.sight.kept) =
    subst (λ (v : KvSight). AllByRecursion (IsSound Manager) (records_of v.log.sight.kept))
    (sym c.self.view_is) c.records_are_sound.ensures in
    left_fits s c.args.keep c.self.invariant sound why

pub returns-clause-err : goal.returns-clause-err
returns-clause-err g c =
    let s : KvSight = record {
      store = c.self.inside.store;
      log = c.self.inside.log;
      boot = c.self.inside.boot;
    } in
    elim c.match-made_ready.branch [
      | in-Ok w ↦ subst (λ r. IfErr r (NotReady (left_by c.args.self.now.log.sight c.args.keep)))
          (sym w.result-is) tt
      | in-Err-Memory w ↦
          subst (λ r. IfErr r (NotReady (left_by c.args.self.now.log.sight c.args.keep))) (sym w.result-is) tt
      | in-Err-Exhausted w ↦
          let why : KvNotRebuilt (left_by s.log.sight c.args.keep) Exhausted =
          subst (KvNotRebuilt (left_by s.log.sight c.args.keep)) w.in-Err-Exhausted.field-0-is
          w.in-Err-Exhausted.ensures.err in
          subst (λ r. IfErr r (NotReady (left_by c.args.self.now.log.sight c.args.keep))) (sym w.result-is)
          (subst (λ (v : KvSight). AreLastBoots (left_by v.log.sight c.args.keep)) c.self.view_is
          (left_spent s c.args.keep c.self.invariant why))
    ]
