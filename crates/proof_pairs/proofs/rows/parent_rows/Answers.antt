use Rattle.proof_pairs.proofs.rows.parent_rows.Goals as goal
use Rattle.proof_pairs.proofs.ParentAbort
use Rattle.proof_pairs.proofs.ParentCommit

pub returns : goal.returns
returns c = record {
  presumed_abort = record {
    accepts = ParentAbort.accepts;
    asks_for_votes = ParentAbort.asks_for_votes;
    hears_yes = ParentAbort.hears_yes;
    hears_read = ParentAbort.hears_read;
    hears_no = ParentAbort.hears_no;
    aborts = ParentAbort.aborts;
    gives_up = ParentAbort.gives_up;
    hears_ack = ParentAbort.hears_ack;
    ends = ParentAbort.ends;
    answers_commit = ParentAbort.answers_commit;
    presumes = ParentAbort.presumes;
  };
  presumed_commit = record {
    accepts = ParentCommit.accepts;
    asks_for_votes = ParentCommit.asks_for_votes;
    hears_yes = ParentCommit.hears_yes;
    hears_read = ParentCommit.hears_read;
    hears_no = ParentCommit.hears_no;
    aborts = ParentCommit.aborts;
    gives_up = ParentCommit.gives_up;
    hears_ack = ParentCommit.hears_ack;
    ends = ParentCommit.ends;
    answers_abort = ParentCommit.answers_abort;
    presumes = ParentCommit.presumes;
  };
}
