use Rattle.std.proofs.Common.{rules}
use Rattle.tree_world.proofs.Processes.{process_equality}
use Rattle.tree_world.proofs.opening.put_by_name.Goals as goal

pub returns-clause-others : goal.returns-clause-others
returns-clause-others c = search (rules, process_equality)
