use Rattle.proof_pairs.proofs.rows.root_rows.Goals as goal
use Rattle.proof_pairs.proofs.RootAbort
use Rattle.proof_pairs.proofs.RootCommit

pub returns : goal.returns
returns c = record {
  presumed_abort = record {
    begins = RootAbort.begins;
    ends_empty = RootAbort.ends_empty;
    ends_read_only = RootAbort.ends_read_only;
    decides = RootAbort.decides;
  };
  presumed_commit = record {
    begins = RootCommit.begins;
    ends_empty = RootCommit.ends_empty;
    ends_read_only = RootCommit.ends_read_only;
    decides = RootCommit.decides;
  };
}
