use Rattle.std.proofs.Common.{ap, sym}
use Rattle.log_records.specs.Sights.{LogState}
use Rattle.coord_process.specs.States.{role_below, state}
use Rattle.tree_process.proofs.Reopened.{coordinator_fails, coordinator_handed_back, coordinator_left}
use Rattle.tree_process.proofs.reopening.reopen_coordinator.Goals as goal

pub returns-in-Ok-clause-ok : goal.returns-in-Ok-clause-ok
returns-in-Ok-clause-ok g c =
    coordinator_left c.args.me c.args.parent c.args.tree (g.L.LogStore.bytes c.args.store)
    (g.L.LogStore.forced c.args.store) (g.L.LogStore.failures c.args.store) c.in_ok-log.log
    (state c.in-Ok.coordinator) c.in-Ok.reaction c.in_ok-log.ensures.ok c.in-Ok.ensures.ok

pub returns-in-Err-clause-err : goal.returns-in-Err-clause-err
returns-in-Err-clause-err g c = rw c.of_coordinator.ensures
    (coordinator_fails g.L.LogStore.bytes g.L.LogStore.forced g.L.LogStore.failures
    (record { me = c.args.me; role = role_below c.args.parent; tree = c.args.tree }) c.args.store
    c.into_store.result c.in_ok-log.log c.in-Err.log c.in-Err.error
    c.in_ok-log.ensures.ok
    (ap (λ (s : LogState). s.sight.failures) (sym c.into_store.ensures)) c.in-Err.ensures.err)

pub returns-in-Err-clause-handed_back : goal.returns-in-Err-clause-handed_back
returns-in-Err-clause-handed_back g c = rw c.of_coordinator.ensures
    (coordinator_handed_back g.L.LogStore.bytes g.L.LogStore.forced g.L.LogStore.failures
    (record { me = c.args.me; role = role_below c.args.parent; tree = c.args.tree }) c.args.store
    c.into_store.result c.in_ok-log.log c.in-Err.log c.in-Err.error
    c.in_ok-log.ensures.ok
    (ap (λ (s : LogState). s.sight.failures) (sym c.into_store.ensures))
    (ap (λ (s : LogState). s.sight.kept) c.into_store.ensures) c.in-Err.ensures.err)
