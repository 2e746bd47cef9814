use Rattle.proof_pairs.proofs.law.opened_tree.Goals as goal
use Rattle.proof_pairs.proofs.Opened.{opened_abort, opened_commit}

pub returns : goal.returns
returns c = record { opens = record { presumed_abort = opened_abort; presumed_commit = opened_commit } }
