use Rattle.std.proofs.Common.{subst, sym}
use Rattle.log_records.specs.Sights.{left_by}
use Rattle.kv_state.specs.Remembered.{RemembersData}
use Rattle.kv_manager.specs.Restarts.{IsReady}
use Rattle.kv_manager.specs.Sights.{KvSight}
use Rattle.kv_manager.proofs.manager.KvManager.restart.Goals as goal

pub reopen-reopened-requires-clause-ready : goal.reopen-reopened-requires-clause-ready
reopen-reopened-requires-clause-ready g c =
    subst (λ (v : KvSight). IsReady (left_by v.log.sight c.args.keep) c.in_ok-ready.ready)
    (sym c.ready.ensures.stays)
    c.in_ok-ready.ensures.ok

pub reopen-reopened-requires-clause-says : goal.reopen-reopened-requires-clause-says
reopen-reopened-requires-clause-says g c =
    subst (λ (v : KvSight). RemembersData (left_by v.log.sight c.args.keep) c.in_ok-ready.remembered)
    (sym c.ready.ensures.stays) c.in_ok-ready.ensures.remembered
