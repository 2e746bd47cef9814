use Rattle.xa_branch.proofs.Lists.{leaves}
use Rattle.xa_branch.proofs.scans.Scans.set.Goals as goal

pub returns-clause-ok : goal.returns-clause-ok
returns-clause-ok c = rw (← c.self.view_is) (leaves _ _ _ _ c.in_ok-insert.ensures.updates.1
    c.in_ok-insert.ensures.updates.2)
