use Rattle.log_rules.proofs.reads.Trimmed.{coordinators_read_trims}
use Rattle.log_rules.proofs.reads.law.coordinators_read_trims.Goals as goal

pub returns : goal.returns
returns c = coordinators_read_trims
