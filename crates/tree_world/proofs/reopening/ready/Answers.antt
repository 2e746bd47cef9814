use Rattle.std.proofs.Common.{Some, None, refl}
use Rattle.tree_world.proofs.ReadyLogs.{as_it_was, fault_seen, migration_returned, not_migrated, readied}
use Rattle.tree_world.proofs.reopening.ready.Goals as goal

-- The log has a fault.

pub returns-in-Ok-Some-clause-err : goal.returns-in-Ok-Some-clause-err
returns-in-Ok-Some-clause-err g c = (
  refl,
  fault_seen c.args.tree.now c.args.entry.now (g.L.LogStore.bytes c.args.store) c.bytes.result.now
      c.in-Ok-Some.field-0
      (Some c.in-Ok-Some.place) c.bytes.ensures c.in-Ok-Some.ensures c.in-Ok-Some.field-0-is,
)

pub returns-in-Ok-Some-clause-handed_back : goal.returns-in-Ok-Some-clause-handed_back
returns-in-Ok-Some-clause-handed_back g c =
    as_it_was g.L.LogStore.bytes g.L.LogStore.forced g.L.LogStore.failures c.args.tree.now c.args.entry.now
    c.args.store c.args.store refl

-- There was no memory to go over it.

pub returns-in-Err-clause-handed_back : goal.returns-in-Err-clause-handed_back
returns-in-Err-clause-handed_back g c =
    as_it_was g.L.LogStore.bytes g.L.LogStore.forced g.L.LogStore.failures c.args.tree.now c.args.entry.now
    c.args.store c.args.store refl

-- It is sound, and is migrated.

pub returns-in-Ok-clause-ok : goal.returns-in-Ok-clause-ok
returns-in-Ok-clause-ok g c =
    readied g.L.LogStore.bytes g.L.LogStore.forced g.L.LogStore.failures c.args.tree.now c.args.entry.now
    c.args.store c.in-Ok.store c.requires
    (fault_seen c.args.tree.now c.args.entry.now (g.L.LogStore.bytes c.args.store) c.bytes.result.now
    c.in-Ok-None.field-0
    None c.bytes.ensures c.in-Ok-None.ensures c.in-Ok-None.field-0-is) c.in-Ok.ensures.ok

pub returns-in-Err-migrate-clause-err : goal.returns-in-Err-migrate-clause-err
returns-in-Err-migrate-clause-err g c = rw c.of_migration.ensures
    (not_migrated g.L.LogStore.bytes g.L.LogStore.forced g.L.LogStore.failures c.args.tree.now
    c.args.entry.now
    c.args.store c.in-Err-migrate.store
    (fault_seen c.args.tree.now c.args.entry.now (g.L.LogStore.bytes c.args.store) c.bytes.result.now
    c.in-Ok-None.field-0
    None c.bytes.ensures c.in-Ok-None.ensures c.in-Ok-None.field-0-is) c.in-Err-migrate.error
    c.in-Err-migrate.ensures.err)

pub returns-in-Err-migrate-clause-handed_back : goal.returns-in-Err-migrate-clause-handed_back
returns-in-Err-migrate-clause-handed_back g c = rw c.of_migration.ensures
    (migration_returned g.L.LogStore.bytes g.L.LogStore.forced g.L.LogStore.failures c.args.tree.now
    c.args.entry.now
    c.args.store c.in-Err-migrate.store c.in-Err-migrate.error c.in-Err-migrate.ensures.err)
