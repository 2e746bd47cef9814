use Rattle.tree_process.proofs.Reopened.{log_fails, log_handed_back}
use Rattle.tree_process.proofs.reopening.left_log.Goals as goal

pub returns-in-Err-clause-err : goal.returns-in-Err-clause-err
returns-in-Err-clause-err g c = rw c.of_log.ensures
    (log_fails _ _ _ _ c.args.store c.in-Err.store c.in-Err.error c.in-Err.ensures.err)

pub returns-in-Err-clause-handed_back : goal.returns-in-Err-clause-handed_back
returns-in-Err-clause-handed_back g c = rw c.of_log.ensures
    (log_handed_back _ _ _ _ c.args.store c.in-Err.store c.in-Err.error c.in-Err.ensures.err)
