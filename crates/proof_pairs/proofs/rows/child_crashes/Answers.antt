use Rattle.proof_pairs.proofs.rows.child_crashes.Goals as goal
use Rattle.proof_pairs.proofs.ChildCrashAbort
use Rattle.proof_pairs.proofs.ChildCrashCommit

pub returns : goal.returns
returns c = record {
  presumed_abort = record {
    child_fails = ChildCrashAbort.child_fails;
    fails_to_promise = ChildCrashAbort.fails_to_promise;
    fails_to_commit = ChildCrashAbort.fails_to_commit;
    fails_to_roll_back = ChildCrashAbort.fails_to_roll_back;
    hardens_failed_child = ChildCrashAbort.hardens_failed_child;
    child_loses = ChildCrashAbort.child_loses;
    child_reopens = ChildCrashAbort.child_reopens;
    child_restarts = ChildCrashAbort.child_restarts;
  };
  presumed_commit = record {
    child_fails = ChildCrashCommit.child_fails;
    fails_to_promise = ChildCrashCommit.fails_to_promise;
    fails_to_commit = ChildCrashCommit.fails_to_commit;
    fails_to_roll_back = ChildCrashCommit.fails_to_roll_back;
    hardens_failed_child = ChildCrashCommit.hardens_failed_child;
    child_loses = ChildCrashCommit.child_loses;
    child_reopens = ChildCrashCommit.child_reopens;
    child_restarts = ChildCrashCommit.child_restarts;
  };
}
