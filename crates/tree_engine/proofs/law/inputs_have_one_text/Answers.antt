use Rattle.tree_engine.proofs.OneText.{one_input}
use Rattle.tree_engine.proofs.law.inputs_have_one_text.Goals as goal

pub returns : goal.returns
returns c = one_input
