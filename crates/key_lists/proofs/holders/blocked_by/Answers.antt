use Rattle.std.proofs.Common.{rules}
use Rattle.key_lists.proofs.holders.blocked_by.Goals as goal

pub returns-in-None : goal.returns-in-None
returns-in-None c = search rules
