use Rattle.proof_pairs.proofs.law.chain.Goals as goal
use Rattle.proof_pairs.proofs.Chain

pub returns : goal.returns
returns c = record { presumed_abort = Chain.abort_chain; presumed_commit = Chain.commit_chain }
