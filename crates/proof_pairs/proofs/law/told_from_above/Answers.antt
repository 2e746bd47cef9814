use Rattle.proof_pairs.proofs.law.told_from_above.Goals as goal
use Rattle.proof_pairs.proofs.Chain

pub returns : goal.returns
returns c = record { presumed_abort = Chain.abort_told; presumed_commit = Chain.commit_told }
