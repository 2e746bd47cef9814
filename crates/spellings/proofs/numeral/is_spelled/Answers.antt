use Rattle.std.proofs.Common.{rules}
use Rattle.spellings.proofs.numeral.is_spelled.Goals as goal

pub returns-in-48 : goal.returns-in-48
returns-in-48 c = search rules
