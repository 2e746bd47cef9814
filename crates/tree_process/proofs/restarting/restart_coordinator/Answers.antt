use Rattle.log_records.specs.Sights.{left_by}
use Rattle.coord_process.specs.States.{state}
use Rattle.tree_process.proofs.Holdings.{coordinator_restarts, nothing_kept}
use Rattle.tree_process.proofs.restarting.restart_coordinator.Goals as goal

pub returns-clause-holdings : goal.returns-clause-holdings
returns-clause-holdings g c = coordinator_restarts c.args.coordinator.now.parent
    (left_by (state c.args.coordinator.now).log c.args.keep) c.restart.result

pub returns-clause-kept : goal.returns-clause-kept
returns-clause-kept g c = nothing_kept c.restart.result
