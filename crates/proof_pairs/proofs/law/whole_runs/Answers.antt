use Rattle.proof_pairs.proofs.law.whole_runs.Goals as goal
use Rattle.proof_pairs.proofs.StagesAbort
use Rattle.proof_pairs.proofs.StagesCommit

pub returns : goal.returns
returns c = record { presumed_abort = StagesAbort.runs; presumed_commit = StagesCommit.runs }
