use Rattle.xa_branch.proofs.Lists.{leaves}
use Rattle.xa_branch.proofs.scans.Scans.close.Goals as goal

pub returns : goal.returns
returns c = rw (← c.self.view_is) (leaves _ _ _ _ c.swap_remove.ensures.updates.1
    c.swap_remove.ensures.updates.2)
