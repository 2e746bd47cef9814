use Rattle.std.proofs.Common.{ap, subst, sym}
use Rattle.log_records.specs.Sights.{LogSight}
use Rattle.kv_state.specs.Stores.{RebasesStore}
use Rattle.resource_manager.specs.Trimming.{ManagerTrims}
use Rattle.kv_manager.specs.Resources.{sight_of}
use Rattle.kv_manager.proofs.Forgetting.{sight_stays}
use Rattle.kv_manager.proofs.manager.KvManager.trim.Goals as goal

pub rebase-requires : goal.rebase-requires
rebase-requires g c = ap (λ (l : LogSight). l.failed) c.in_ok-count.ensures.ok.log

pub returns-clause-ok : goal.returns-clause-ok
returns-clause-ok g c =
    subst (λ t. ManagerTrims (sight_of c.args.self.now) t c.in_ok-count.count)
    (sym (sight_stays c.trim_log.new.self c.rebase.new.self c.rebase.ensures.store c.rebase.ensures.log
    c.rebase.ensures.boot)) c.in_ok-count.ensures.ok

pub returns-clause-data : goal.returns-clause-data
returns-clause-data g c =
    subst (λ s. RebasesStore s c.rebase.new.self.store) c.trim_log.ensures.store c.rebase.ensures.store
