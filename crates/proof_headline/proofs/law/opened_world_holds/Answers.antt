use Rattle.proof_headline.proofs.Opened
use Rattle.proof_headline.proofs.law.opened_world_holds.Goals as goal

pub returns : goal.returns
returns c = Opened.opened_world_holds
