use Rattle.std.proofs.Common.{rules}
use Rattle.coord_rows.proofs.collecting.collecting_full.Goals as goal

pub returns-then-none_voted_yes-clause-ok : goal.returns-then-none_voted_yes-clause-ok
returns-then-none_voted_yes-clause-ok c = search rules
