use Rattle.cluster_process.proofs.Refusing.{input_refused}
use Rattle.cluster_process.proofs.making.handle.Goals as goal

pub returns-clause-err : goal.returns-clause-err
returns-clause-err c = input_refused _ _ _ _ _ _ c.never_failed.ensures c.handle-handled.ensures.err
