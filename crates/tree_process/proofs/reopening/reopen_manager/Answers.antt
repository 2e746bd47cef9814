use Rattle.std.proofs.Common.{◌≡◌, ◌∙◌, ap, inl, subst}
use Rattle.log_records.specs.Sights.{LogSight, kept_of}
use Rattle.kv_manager.specs.Sights.{KvSight}
use Rattle.kv_manager.specs.Resources.{sight_of}
use Rattle.sub_process.specs.Steps.{state}
use Rattle.protocol.specs.Views.{leaf_place}
use Rattle.tree_process.proofs.Reopened.{manager_left, over_restarted, subordinate_fails, subordinate_handed_back}
use Rattle.tree_process.proofs.reopening.reopen_manager.Goals as goal

pub reopen-requires : goal.reopen-requires
reopen-requires g c = record {
  restarted = over_restarted c.in-Ok.ensures.ok.log c.in-Ok.manager c.in-Ok.ensures.ok.starts;
  own = c.in-Ok.ensures.ok.starts.form ∙ c.in-Ok.ensures.ok.opens.form;
}

pub returns-in-Ok-reopen-clause-ok : goal.returns-in-Ok-reopen-clause-ok
returns-in-Ok-reopen-clause-ok g c =
    manager_left c.args.me c.args.parent c.args.tree (g.L.LogStore.bytes c.args.store)
    (g.L.LogStore.forced c.args.store) (g.L.LogStore.failures c.args.store) c.in-Ok.manager
    (state sight_of c.in-Ok-reopen.subordinate) (sight_of c.in-Ok-reopen.subordinate.manager)
    c.in-Ok-reopen.reaction
    c.in-Ok.ensures.ok c.in-Ok-reopen.ensures.ok c.in-Ok-reopen.ensures.writes

pub returns-in-Err-clause-err : goal.returns-in-Err-clause-err
returns-in-Err-clause-err g c = inl c.in-Err.ensures.err

pub returns-in-Err-reopen-clause-err : goal.returns-in-Err-reopen-clause-err
returns-in-Err-reopen-clause-err g c = rw c.of_subordinate.ensures
    (subordinate_fails g.L.LogStore.bytes g.L.LogStore.forced g.L.LogStore.failures
    (leaf_place c.args.me c.args.parent c.args.tree) c.args.store c.in-Ok.manager
    c.in-Ok.ensures.ok c.in-Err-reopen.error c.in-Err-reopen.ensures.err.0)

pub returns-in-Err-reopen-clause-handed_back : goal.returns-in-Err-reopen-clause-handed_back
returns-in-Err-reopen-clause-handed_back g c = rw c.of_subordinate.ensures
    (subordinate_handed_back g.L.LogStore.bytes g.L.LogStore.forced g.L.LogStore.failures
    c.args.me c.args.store
    c.into_store.result c.in-Ok.manager c.in-Ok.ensures.ok
    (subst (λ (s : KvSight). kept_of s.log.sight.form (g.L.LogStore.bytes c.into_store.result)
    (g.L.LogStore.forced c.into_store.result) ≡ s.log.sight.kept) c.in-Err-reopen.ensures.err.1
    (ap (λ (l : LogSight). l.kept) c.into_store.ensures)) c.in-Err-reopen.error)
