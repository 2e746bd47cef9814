use Rattle.log_records.proofs.Trims.{settled_if}
use Rattle.log_records.proofs.log.RecLog.trimmed.Goals as goal

pub returns : goal.returns
returns g c = settled_if _ _ _ _ _ _ _ c.self.inside.trimmed c.self.view_is c.self.invariant.2
