use Rattle.proof_worked.proofs.wrong.UnderAbort
use Rattle.proof_worked.proofs.wrong.UnderCommit
use Rattle.proof_worked.proofs.wrong.Boots
use Rattle.proof_worked.proofs.wrong.law.wrong_steps.Goals as goal

pub returns : goal.returns
returns c = record {
  forgets_after_first_ack = UnderAbort.forgets_after_first_ack;
  prepare_before_collecting = UnderCommit.prepare_before_collecting;
  boot_reused = Boots.boot_reused;
  reads_over_a_yes = UnderAbort.reads_over_a_yes;
  obeys_contradicting_commit = UnderCommit.obeys_contradicting_commit;
  trim_drops_commit = UnderCommit.trim_drops_commit;
  told_drops_decision = UnderAbort.told_drops_decision;
  commits_on_votes_so_far = UnderAbort.commits_on_votes_so_far;
}
