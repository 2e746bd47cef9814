use Rattle.proof_pairs.proofs.rows.cascaded_rows.Goals as goal
use Rattle.proof_pairs.proofs.CascadedAbort
use Rattle.proof_pairs.proofs.CascadedCommit

pub returns : goal.returns
returns c = record {
  presumed_abort = record {
    is_born = CascadedAbort.is_born;
    takes_part = CascadedAbort.takes_part;
    commits_above = CascadedAbort.commits_above;
    reads_empty = CascadedAbort.reads_empty;
    reads_up = CascadedAbort.reads_up;
    promises = CascadedAbort.promises;
    passes_commit = CascadedAbort.passes_commit;
    passes_abort = CascadedAbort.passes_abort;
  };
  presumed_commit = record {
    is_born = CascadedCommit.is_born;
    takes_part = CascadedCommit.takes_part;
    commits_above = CascadedCommit.commits_above;
    reads_empty = CascadedCommit.reads_empty;
    reads_up = CascadedCommit.reads_up;
    promises = CascadedCommit.promises;
    passes_commit = CascadedCommit.passes_commit;
    passes_abort = CascadedCommit.passes_abort;
  };
}
