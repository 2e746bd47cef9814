use Rattle.std.proofs.Common.{rules}
use Rattle.tree_journal.proofs.short_step.keep_act.Goals as goal

pub returns-in-Input-Act-clause-cause : goal.returns-in-Input-Act-clause-cause
returns-in-Input-Act-clause-cause c = search rules
