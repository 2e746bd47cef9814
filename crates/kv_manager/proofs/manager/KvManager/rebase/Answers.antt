use Rattle.std.proofs.Common.{◌≡◌, false, ap, subst, sym, ◌∙◌}
use Rattle.kv_manager.specs.Sights.{KvSight}
use Rattle.kv_manager.proofs.Forgetting.{kept_forgetting}
use Rattle.kv_manager.proofs.manager.KvManager.rebase.Goals as goal

pub rebase-requires : goal.rebase-requires
rebase-requires g c =
    let works : c.self.inside.log.sight.failed ≡ false =
    ap (λ (v : KvSight). v.log.sight.failed) c.self.view_is ∙ c.requires in
    (c.self.invariant.stands works).are_data.unstaged

pub invariant_of-self : goal.invariant_of-self
invariant_of-self g c =
    let s : KvSight = record {
      store = c.self.inside.store;
      log = c.self.inside.log;
      boot = c.self.inside.boot;
    } in
    let works : s.log.sight.failed ≡ false = ap (λ (v : KvSight). v.log.sight.failed) c.self.view_is
    ∙ c.requires in
    kept_forgetting s c.rebase.new.self c.rebase.ensures works c.self.invariant
