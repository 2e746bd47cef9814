use Rattle.process_state.specs.Inputs.{input_of}
use Rattle.tree_process.proofs.Holdings.{coordinator_answers}
use Rattle.tree_process.proofs.node.answer_nothing.Goals as goal

pub returns : goal.returns
returns g c = coordinator_answers c.args.coordinator.now (input_of c.args.input)
