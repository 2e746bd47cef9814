use Rattle.tree_process.proofs.EmptyLogs.{no_records}
use Rattle.tree_process.proofs.Refusals.{log_handed_back, log_refused}
use Rattle.tree_process.proofs.opening.empty_log.Goals as goal

pub returns-in-Ok-clause-empty : goal.returns-in-Ok-clause-empty
returns-in-Ok-clause-empty g c = no_records _ _ _ _ _ c.requires c.in-Ok.ensures.ok

pub returns-in-Err-clause-err : goal.returns-in-Err-clause-err
returns-in-Err-clause-err g c = rw c.of_log.ensures
    (log_refused _ _ _ _ c.args.me c.args.store c.in-Err.store c.in-Err.error c.requires c.in-Err.ensures.err)

pub returns-in-Err-clause-handed_back : goal.returns-in-Err-clause-handed_back
returns-in-Err-clause-handed_back g c = rw c.of_log.ensures
    (log_handed_back _ _ _ _ c.args.me c.args.store c.in-Err.store c.in-Err.error c.requires
    c.in-Err.ensures.err)
