use Rattle.std.proofs.Common.{ap, sym}
use Rattle.log_records.specs.Sights.{LogState}
use Rattle.tree_process.proofs.Refusals.{coordinator_handed_back, coordinator_refused}
use Rattle.tree_process.proofs.opening.open_coordinator.Goals as goal

pub returns-in-Err-clause-err : goal.returns-in-Err-clause-err
returns-in-Err-clause-err g c = rw c.of_step.ensures
    (coordinator_refused g.L.LogStore.bytes g.L.LogStore.failures c.args.me c.args.store c.into_store.result
    c.in_ok-log.log c.in-Err.log c.in-Err.error c.requires c.in_ok-log.ensures.failures
    (ap (λ (s : LogState). s.sight.failures) (sym c.into_store.ensures)) c.in-Err.ensures.err)

pub returns-in-Err-clause-handed_back : goal.returns-in-Err-clause-handed_back
returns-in-Err-clause-handed_back g c = rw c.of_step.ensures
    (coordinator_handed_back g.L.LogStore.failures c.args.me c.args.store c.into_store.result
    c.in_ok-log.log c.in-Err.log c.in-Err.error c.in_ok-log.ensures.failures
    (ap (λ (s : LogState). s.sight.failures) (sym c.into_store.ensures)) c.in-Err.ensures.err)
