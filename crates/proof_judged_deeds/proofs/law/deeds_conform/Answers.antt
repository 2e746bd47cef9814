use Rattle.proof_judged_deeds.proofs.Conforming.{deeds_legal}
use Rattle.proof_judged_deeds.proofs.law.deeds_conform.Goals as goal

pub returns : goal.returns
returns c = deeds_legal
