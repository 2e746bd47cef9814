use Rattle.proof_pairs.proofs.law.true_answers.Goals as goal
use Rattle.proof_pairs.proofs.Promises

pub returns : goal.returns
returns c = record {
  presumed_abort = Promises.abort_true_answers;
  presumed_commit = Promises.commit_true_answers;
}
