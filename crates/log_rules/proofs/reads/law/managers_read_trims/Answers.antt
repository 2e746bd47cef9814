use Rattle.log_rules.proofs.reads.ManagerTrims.{managers_read_trims}
use Rattle.log_rules.proofs.reads.law.managers_read_trims.Goals as goal

pub returns : goal.returns
returns c = managers_read_trims
