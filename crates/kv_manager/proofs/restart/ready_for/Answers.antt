use Rattle.std.proofs.Common.{List}
use Rattle.protocol.specs.declared.records.LogRecord.{LogRecord}
use Rattle.kv_state.specs.Remembered.{LeavesNow}
use Rattle.kv_manager.specs.Restarts.{LeavesStore, KvNotRebuilt}
use Rattle.kv_manager.proofs.Restoring.{boot_fits}
use Rattle.kv_manager.proofs.restart.ready_for.Goals as goal

pub announced-requires : goal.announced-requires
announced-requires c =
    let left : LeavesStore c.requires.0 c.in_ok-store.store c.in_ok-store.boot =
    c.in_ok-store.ensures.ok c.requires.0 c.requires.1 in
    boot_fits left.seen.boot c.in_ok-store.boot left.next

pub returns-in-Ok-clause-ok : goal.returns-in-Ok-clause-ok
returns-in-Ok-clause-ok c = λ ls leaves. record {
  left = c.in_ok-store.ensures.ok ls leaves;
  listed = c.in-Ok.ensures.listed;
  spells = c.in-Ok.ensures.spells;
  sound = c.in-Ok.ensures.sound;
}

pub returns-in-Err-clause-err : goal.returns-in-Err-clause-err
returns-in-Err-clause-err c = λ ls leaves. tt
