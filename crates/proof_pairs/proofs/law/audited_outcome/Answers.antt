use Rattle.proof_pairs.proofs.law.audited_outcome.Goals as goal
use Rattle.proof_pairs.proofs.Audited

pub returns : goal.returns
returns c = record {
  presumed_abort = Audited.abort_audited;
  presumed_commit = Audited.commit_audited;
}
