use Rattle.proof_closed_logs.proofs.Audits.{closed_truly}
use Rattle.proof_closed_logs.proofs.law.closed_clusters_are_audited_truly.Goals as goal

pub returns : goal.returns
returns c = closed_truly
