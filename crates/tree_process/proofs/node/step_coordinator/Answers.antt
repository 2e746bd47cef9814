use Rattle.process_state.specs.Inputs.{input_of}
use Rattle.tree_process.proofs.Holdings.{coordinator_fails, coordinator_handles, coordinator_stops}
use Rattle.tree_process.proofs.node.step_coordinator.Goals as goal

pub returns-clause-ok : goal.returns-clause-ok
returns-clause-ok g c = coordinator_handles c.args.coordinator.now c.step.new.self (input_of c.args.input)
    c.step.result c.step.ensures.ok

pub returns-clause-err : goal.returns-clause-err
returns-clause-err g c = coordinator_stops c.args.coordinator.now c.step.new.self (input_of c.args.input)
    c.step.result c.step.ensures.err

pub returns-clause-under : goal.returns-clause-under
returns-clause-under g c = coordinator_fails c.args.coordinator.now c.step.new.self (input_of c.args.input)
    c.step.result c.step.ensures.under
