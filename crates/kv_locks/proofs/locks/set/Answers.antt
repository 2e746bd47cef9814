use Rattle.std.proofs.Common.{rules, Some, refl}
use Rattle.key_lists.proofs.Tables.{becomes}
use Rattle.kv_locks.proofs.locks.set.Goals as goal

pub returns-clause-ok : goal.returns-clause-ok
returns-clause-ok c = becomes _ _ c.args.key.now (Some c.args.list) _ (search rules) (search rules) refl
