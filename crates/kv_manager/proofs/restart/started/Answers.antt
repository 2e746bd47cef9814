use Rattle.std.proofs.Common.{refl, subst}
use Rattle.kv_manager.specs.declared.restart.RecordsError.TheVariants.{Memory}
use Rattle.kv_manager.specs.Restarts.{LeavesNone, LeavesStore, KvNotRebuilt}
use Rattle.kv_manager.proofs.Keeping.{made_error}
use Rattle.kv_manager.proofs.Restoring.{boot_fits, none_left, starts_none, starts_over}
use Rattle.kv_manager.proofs.restart.started.Goals as goal

pub returns-in_err-records-clause-err : goal.returns-in_err-records-clause-err
returns-in_err-records-clause-err g c =
    made_error (LeavesNone c.args.log.now c.args.log.now) Memory c.from_residual.result
    c.from_residual.ensures.1 (tt, refl)

pub returns-in_err-store-clause-err : goal.returns-in_err-store-clause-err
returns-in_err-store-clause-err g c =
    made_error (LeavesNone c.args.log.now c.args.log.now) c.in_err-store.field-0.0
    c.from_residual-in_err-store.result c.from_residual-in_err-store.ensures.1
    (none_left c.args.log.now c.in_err-store.field-0.0
    (subst (λ ls. KvNotRebuilt ls c.in_err-store.field-0.0) c.in_ok-records.ensures
    c.in_err-store.ensures.err))

pub write_boot-requires-clause-fits : goal.write_boot-requires-clause-fits
write_boot-requires-clause-fits g c = boot_fits c.in_ok-store.ensures.ok.seen.boot c.in_ok-store.boot
    c.in_ok-store.ensures.ok.next

pub returns-in-Ok-clause-ok : goal.returns-in-Ok-clause-ok
returns-in-Ok-clause-ok g c =
    starts_over c.args.log.now c.write_boot.new.log c.in_ok-store.store c.in_ok-store.boot c.requires.works
    (subst (λ ls. LeavesStore ls c.in_ok-store.store c.in_ok-store.boot) c.in_ok-records.ensures
    c.in_ok-store.ensures.ok) c.in-Ok.ensures.ok

pub returns-in-Err-clause-err : goal.returns-in-Err-clause-err
returns-in-Err-clause-err g c =
    starts_none c.args.log.now c.write_boot.new.log c.in_ok-store.store c.in_ok-store.boot c.in-Err.error
    (subst (λ ls. LeavesStore ls c.in_ok-store.store c.in_ok-store.boot) c.in_ok-records.ensures
    c.in_ok-store.ensures.ok) c.in-Err.ensures.err
