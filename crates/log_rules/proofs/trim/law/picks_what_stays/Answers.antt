use Rattle.log_rules.proofs.trim.Picks.{picks_what_stays}
use Rattle.log_rules.proofs.trim.law.picks_what_stays.Goals as goal

pub returns : goal.returns
returns c = picks_what_stays
