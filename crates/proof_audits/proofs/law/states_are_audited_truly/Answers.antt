use Rattle.proof_audits.proofs.Audits.{audited_truly}
use Rattle.proof_audits.proofs.law.states_are_audited_truly.Goals as goal

pub returns : goal.returns
returns c = audited_truly
