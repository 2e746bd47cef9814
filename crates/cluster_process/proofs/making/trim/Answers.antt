use Rattle.cluster_process.proofs.Refusing.{trim_refused, trimmed}
use Rattle.cluster_process.proofs.making.trim.Goals as goal

pub returns-clause-ok : goal.returns-clause-ok
returns-clause-ok c = trimmed _ _ _ _ _ c.trim_sound-remain.ensures.ok

pub returns-clause-err : goal.returns-clause-err
returns-clause-err c = trim_refused _ _ _ _ _ c.never_failed.ensures c.trim_sound-remain.ensures.err
