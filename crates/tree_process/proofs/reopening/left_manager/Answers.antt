use Rattle.tree_process.proofs.Reopened.{manager_fails, manager_handed_back}
use Rattle.tree_process.proofs.reopening.left_manager.Goals as goal

pub returns-in-Err-clause-err : goal.returns-in-Err-clause-err
returns-in-Err-clause-err g c = rw c.of_manager.ensures
    (manager_fails _ _ _ c.args.me c.args.store c.in-Err.store c.in-Err.error c.in-Err.ensures.err)

pub returns-in-Err-clause-handed_back : goal.returns-in-Err-clause-handed_back
returns-in-Err-clause-handed_back g c = rw c.of_manager.ensures
    (manager_handed_back _ _ _ c.args.me c.args.store c.in-Err.store c.in-Err.error c.in-Err.ensures.err)
