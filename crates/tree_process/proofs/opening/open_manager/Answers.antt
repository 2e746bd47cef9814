use Rattle.tree_process.proofs.Refusals.{manager_handed_back, manager_refused}
use Rattle.tree_process.proofs.opening.open_manager.Goals as goal

pub returns-in-Err-clause-err : goal.returns-in-Err-clause-err
returns-in-Err-clause-err g c = rw c.of_manager.ensures
    (manager_refused _ _ _ c.args.me c.args.store c.in-Err.store c.in-Err.error c.requires
    c.in-Err.ensures.err)

pub returns-in-Err-clause-handed_back : goal.returns-in-Err-clause-handed_back
returns-in-Err-clause-handed_back g c = rw c.of_manager.ensures
    (manager_handed_back _ _ _ c.args.me c.args.store c.in-Err.store c.in-Err.error c.requires
    c.in-Err.ensures.err)
