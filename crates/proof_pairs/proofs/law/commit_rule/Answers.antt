use Rattle.proof_pairs.proofs.law.commit_rule.Goals as goal
use Rattle.proof_pairs.proofs.Promises

pub returns : goal.returns
returns c = record {
  presumed_abort = Promises.abort_commit_rule;
  presumed_commit = Promises.commit_commit_rule;
}
