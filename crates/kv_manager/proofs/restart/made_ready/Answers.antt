use Rattle.std.proofs.Common.{subst, sym}
use Rattle.log_records.specs.Sights.{left_by}
use Rattle.kv_manager.specs.Restarts.{KvNotRebuilt}
use Rattle.kv_manager.proofs.Restoring.{not_rebuilt}
use Rattle.kv_manager.proofs.restart.made_ready.Goals as goal

pub ready_for-requires : goal.ready_for-requires
ready_for-requires g c = (left_by c.args.log.now.sight c.args.keep, c.in-Ok.ensures.leaves)
