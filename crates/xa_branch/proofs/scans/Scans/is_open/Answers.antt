use Rattle.std.proofs.Common.{◌∙◌, sym}
use Rattle.xa_branch.proofs.Lists.{has_scan-left_of}
use Rattle.xa_branch.proofs.scans.Scans.is_open.Goals as goal

pub returns : goal.returns
returns c = rw (← c.self.view_is) (c.contains_key.ensures
    ∙ sym (has_scan-left_of c.self.inside.left.entries c.args.thread))
