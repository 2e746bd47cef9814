use Rattle.proof_pairs.proofs.rows.child_rows.Goals as goal
use Rattle.proof_pairs.proofs.ChildAbort
use Rattle.proof_pairs.proofs.ChildCommit

pub returns : goal.returns
returns c = record {
  presumed_abort = record {
    issues = ChildAbort.issues;
    votes_yes = ChildAbort.votes_yes;
    votes_no = ChildAbort.votes_no;
    votes_read = ChildAbort.votes_read;
    drops = ChildAbort.drops;
    repeats_yes = ChildAbort.repeats_yes;
    refuses = ChildAbort.refuses;
    commits = ChildAbort.commits;
    rolls_back = ChildAbort.rolls_back;
    acknowledges = ChildAbort.acknowledges;
    learns_commit = ChildAbort.learns_commit;
    acknowledges_settled = ChildAbort.acknowledges_settled;
    asks = ChildAbort.asks;
  };
  presumed_commit = record {
    issues = ChildCommit.issues;
    votes_yes = ChildCommit.votes_yes;
    votes_no = ChildCommit.votes_no;
    votes_read = ChildCommit.votes_read;
    drops = ChildCommit.drops;
    drops_and_acknowledges = ChildCommit.drops_and_acknowledges;
    repeats_yes = ChildCommit.repeats_yes;
    refuses = ChildCommit.refuses;
    commits = ChildCommit.commits;
    rolls_back = ChildCommit.rolls_back;
    acknowledges = ChildCommit.acknowledges;
    learns_abort = ChildCommit.learns_abort;
    acknowledges_settled = ChildCommit.acknowledges_settled;
    asks = ChildCommit.asks;
  };
}
