use Rattle.process_state.specs.Inputs.{input_of}
use Rattle.kv_manager.specs.Resources.{sight_of}
use Rattle.sub_process.specs.Subordinates.{seen}
use Rattle.tree_process.proofs.Holdings.{manager_fails, manager_handles, manager_stops}
use Rattle.tree_process.proofs.node.step_manager.Goals as goal

pub returns-clause-ok : goal.returns-clause-ok
returns-clause-ok g c = manager_handles (seen sight_of c.args.manager.now) (seen sight_of c.step.new.self)
    (input_of c.args.input) c.step.result (c.data_answers.ensures (input_of c.args.input)) c.step.ensures.ok
    c.step.ensures.writes

pub returns-clause-err : goal.returns-clause-err
returns-clause-err g c = manager_stops (seen sight_of c.args.manager.now) (seen sight_of c.step.new.self)
    (input_of c.args.input) c.step.result (c.data_answers.ensures (input_of c.args.input)) c.step.ensures.err
    c.step.ensures.kept

pub returns-clause-under : goal.returns-clause-under
returns-clause-under g c = manager_fails (seen sight_of c.args.manager.now) (seen sight_of c.step.new.self)
    (input_of c.args.input) c.step.result (c.data_answers.ensures (input_of c.args.input)) c.step.ensures.err
