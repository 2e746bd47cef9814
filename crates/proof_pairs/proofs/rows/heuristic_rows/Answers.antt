use Rattle.proof_pairs.proofs.rows.heuristic_rows.Goals as goal
use Rattle.proof_pairs.proofs.ChildAbort
use Rattle.proof_pairs.proofs.ChildCommit
use Rattle.proof_pairs.proofs.ChildCrashAbort
use Rattle.proof_pairs.proofs.ChildCrashCommit

pub returns : goal.returns
returns c = record {
  presumed_abort = record {
    decides_alone = ChildAbort.decides_alone;
    forgets = ChildAbort.forgets;
    fails_to_decide_alone = ChildCrashAbort.fails_to_decide_alone;
    fails_to_forget = ChildCrashAbort.fails_to_forget;
  };
  presumed_commit = record {
    decides_alone = ChildCommit.decides_alone;
    forgets = ChildCommit.forgets;
    fails_to_decide_alone = ChildCrashCommit.fails_to_decide_alone;
    fails_to_forget = ChildCrashCommit.fails_to_forget;
  };
}
