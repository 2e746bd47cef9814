use Rattle.std.proofs.Common.{rules}
use Rattle.xa_tables.proofs.rows.next_init.Goals as goal

pub returns-in_default : goal.returns-in_default
returns-in_default c = search rules
