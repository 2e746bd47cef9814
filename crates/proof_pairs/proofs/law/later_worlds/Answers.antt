use Rattle.proof_pairs.proofs.Later
use Rattle.proof_pairs.proofs.law.later_worlds.Goals as goal

pub returns : goal.returns
returns c = record { later = Later.lateness }
