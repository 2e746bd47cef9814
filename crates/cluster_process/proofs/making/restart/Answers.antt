use Rattle.cluster_process.proofs.Refusing.{restart_refused, restarted}
use Rattle.cluster_process.proofs.making.restart.Goals as goal

pub returns-clause-ok : goal.returns-clause-ok
returns-clause-ok c =
    restarted _ _ _ _ _ _ c.requires c.restart-restarted.ensures.ok c.restart-restarted.ensures.holdings

pub returns-clause-err : goal.returns-clause-err
returns-clause-err c =
    restart_refused _ _ _ _ _ _ _ c.never_failed.ensures c.restart-restarted.ensures.err
    c.restart-restarted.ensures.kept
