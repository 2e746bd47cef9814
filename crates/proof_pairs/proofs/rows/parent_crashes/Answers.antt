use Rattle.proof_pairs.proofs.rows.parent_crashes.Goals as goal
use Rattle.proof_pairs.proofs.ParentCrashAbort
use Rattle.proof_pairs.proofs.ParentCrashCommit

pub returns : goal.returns
returns c = record {
  presumed_abort = record {
    parent_fails = ParentCrashAbort.parent_fails;
    fails_to_hear_no = ParentCrashAbort.fails_to_hear_no;
    fails_at_no = ParentCrashAbort.fails_at_no;
    fails_to_abort = ParentCrashAbort.fails_to_abort;
    fails_to_decide = ParentCrashAbort.fails_to_decide;
    fails_to_promise_up = ParentCrashAbort.fails_to_promise_up;
    fails_to_pass_commit = ParentCrashAbort.fails_to_pass_commit;
    fails_to_pass_abort = ParentCrashAbort.fails_to_pass_abort;
    fails_to_end = ParentCrashAbort.fails_to_end;
    hardens_failed_parent = ParentCrashAbort.hardens_failed_parent;
    parent_loses = ParentCrashAbort.parent_loses;
    parent_reopens = ParentCrashAbort.parent_reopens;
    parent_restarts = ParentCrashAbort.parent_restarts;
  };
  presumed_commit = record {
    parent_fails = ParentCrashCommit.parent_fails;
    fails_to_collect = ParentCrashCommit.fails_to_collect;
    fails_to_hear_no = ParentCrashCommit.fails_to_hear_no;
    fails_at_no = ParentCrashCommit.fails_at_no;
    fails_to_abort = ParentCrashCommit.fails_to_abort;
    fails_to_abort_at_restart = ParentCrashCommit.fails_to_abort_at_restart;
    fails_to_end_read_only = ParentCrashCommit.fails_to_end_read_only;
    fails_to_decide = ParentCrashCommit.fails_to_decide;
    fails_to_promise_up = ParentCrashCommit.fails_to_promise_up;
    fails_to_pass_commit = ParentCrashCommit.fails_to_pass_commit;
    fails_to_pass_abort = ParentCrashCommit.fails_to_pass_abort;
    fails_to_end = ParentCrashCommit.fails_to_end;
    hardens_failed_parent = ParentCrashCommit.hardens_failed_parent;
    parent_loses = ParentCrashCommit.parent_loses;
    parent_reopens = ParentCrashCommit.parent_reopens;
    parent_restarts = ParentCrashCommit.parent_restarts;
  };
}
