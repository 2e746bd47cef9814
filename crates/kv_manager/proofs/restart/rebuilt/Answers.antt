use Rattle.std.proofs.Common.{subst, sym}
use Rattle.std.proofs.lemmas.Result.{IfErr-weaker, IfOk-weaker}
use Rattle.kv_state.proofs.Remembering.{leaves_now}
use Rattle.kv_manager.specs.Restarts.{LeavesStore, KvNotRebuilt}
use Rattle.kv_manager.proofs.Restoring.{not_rebuilt}
use Rattle.kv_manager.proofs.restart.rebuilt.Goals as goal

pub store_of-requires : goal.store_of-requires
store_of-requires c = (
  c.args.records.items,
  leaves_now c.args.records.items c.in-Ok.replayed
      c.in-Ok.ensures.ok,
)

pub returns-in-Ok-clause-ok : goal.returns-in-Ok-clause-ok
returns-in-Ok-clause-ok c =
    IfOk-weaker c.store_of.result _ (λ made. LeavesStore c.args.records.items made.0 made.1)
    (λ made left. left c.args.records.items
    (leaves_now c.args.records.items c.in-Ok.replayed c.in-Ok.ensures.ok))
    c.store_of.ensures.ok

pub returns-in-Ok-clause-err : goal.returns-in-Ok-clause-err
returns-in-Ok-clause-err c =
    IfErr-weaker c.store_of.result _ (KvNotRebuilt c.args.records.items)
    (λ e why. why c.args.records.items (leaves_now c.args.records.items c.in-Ok.replayed c.in-Ok.ensures.ok))
    c.store_of.ensures.err

pub returns-in-Err-clause-err : goal.returns-in-Err-clause-err
returns-in-Err-clause-err c =
    subst (KvNotRebuilt c.args.records.items) (sym c.replay_error.ensures)
    (not_rebuilt c.args.records.items c.in-Err.error c.in-Err.ensures.err)
