use Rattle.tree_process.proofs.Holdings.{coordinator_trims, nothing_kept}
use Rattle.tree_process.proofs.restarting.trim_coordinator.Goals as goal

pub returns-clause-holdings : goal.returns-clause-holdings
returns-clause-holdings g c = coordinator_trims c.args.coordinator.now.parent c.trim.result

pub returns-clause-kept : goal.returns-clause-kept
returns-clause-kept g c = nothing_kept c.trim.result
