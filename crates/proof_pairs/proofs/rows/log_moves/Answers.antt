use Rattle.proof_pairs.proofs.rows.log_moves.Goals as goal
use Rattle.proof_pairs.proofs.ChildAbort
use Rattle.proof_pairs.proofs.ChildCommit
use Rattle.proof_pairs.proofs.ParentAbort
use Rattle.proof_pairs.proofs.ParentCommit

pub returns : goal.returns
returns c = record {
  presumed_abort = record {
    hardens_child = ChildAbort.hardens_child;
    trims_child = ChildAbort.trims_child;
    hardens_parent = ParentAbort.hardens_parent;
    trims_parent = ParentAbort.trims_parent;
  };
  presumed_commit = record {
    hardens_child = ChildCommit.hardens_child;
    trims_child = ChildCommit.trims_child;
    hardens_parent = ParentCommit.hardens_parent;
    trims_parent = ParentCommit.trims_parent;
  };
}
