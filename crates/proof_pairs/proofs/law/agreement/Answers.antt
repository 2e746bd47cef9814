use Rattle.proof_pairs.proofs.law.agreement.Goals as goal
use Rattle.proof_pairs.proofs.Promises

pub returns : goal.returns
returns c = record {
  presumed_abort = Promises.abort_agreement;
  presumed_commit = Promises.commit_agreement;
}
