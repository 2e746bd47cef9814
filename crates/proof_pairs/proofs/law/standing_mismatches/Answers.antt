use Rattle.proof_pairs.proofs.law.standing_mismatches.Goals as goal
use Rattle.proof_pairs.proofs.Promises

pub returns : goal.returns
returns c = record {
  presumed_abort = Promises.abort_standing_mismatches;
  presumed_commit = Promises.commit_standing_mismatches;
}
