use Rattle.process_state.specs.Inputs.{input_of}
use Rattle.kv_manager.specs.Resources.{sight_of}
use Rattle.sub_process.specs.Subordinates.{seen}
use Rattle.tree_process.proofs.Holdings.{manager_answers}
use Rattle.tree_process.proofs.node.answer_by_data.Goals as goal

pub returns : goal.returns
returns g c =
    let i = input_of c.args.input in
    manager_answers (seen sight_of c.args.manager.now) i (c.data_answers.ensures i)
