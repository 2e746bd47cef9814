use Rattle.proof_worked.proofs.wrong.Harms
use Rattle.proof_worked.proofs.wrong.law.wrong_steps_harm.Goals as goal

pub returns : goal.returns
returns c = record {
  forgets_after_first_ack = Harms.forgets_after_first_ack;
  prepare_before_collecting = Harms.prepare_before_collecting;
  boot_reused = Harms.boot_reused;
  reads_over_a_yes = Harms.reads_over_a_yes;
  obeys_contradicting_commit = Harms.obeys_contradicting_commit;
  trim_drops_commit = Harms.trim_drops_commit;
  told_drops_decision = Harms.told_drops_decision;
  commits_on_votes_so_far = Harms.commits_on_votes_so_far;
}
