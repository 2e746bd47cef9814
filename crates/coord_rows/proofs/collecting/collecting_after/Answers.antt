use Rattle.std.proofs.Common.{rules}
use Rattle.coord_rows.proofs.collecting.collecting_after.Goals as goal

pub returns-then-all_voted : goal.returns-then-all_voted
returns-then-all_voted c = search rules
