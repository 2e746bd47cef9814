-- The wrong bodies under Presumed Abort that break a pair.
use Rattle.std.proofs.Common.{◌≡◌, arith, true, refl}
use Rattle.protocol.specs.declared.names.Presumption.TheVariants.{PresumeAbort}
use Rattle.protocol.specs.World.{MayHappen}
use Rattle.protocol.specs.Rows.{process, tree_a, tree_c}
use Rattle.proof_processes.specs.WorldHolds.{IsFree, pair_reading}
use Rattle.proof_pairs.specs.Reading.{Reading}
use Rattle.proof_worked.specs.wrong.WrongSteps.{Breaks}
use Rattle.proof_worked.specs.wrong.WrongBodies.{top, case_at, second, third}
use Rattle.proof_worked.specs.wrong.WrongBodies
use Rattle.proof_worked.proofs.wrong.Computing.{computing}
use Rattle.proof_worked.proofs.wrong.PlayedRuns.{goes_on}
use Rattle.proof_worked.proofs.wrong.Breaking.{play_of, reached, left_by, by_pair, IsEndedEarly, ended_early, IsReadOverAVote, read_over_a_vote, IsDecisionLost, decision_lost, IsUnvoted, unvoted}
use Rattle.proof_worked.proofs.wrong.Trees.{tree_a_is_tree, tree_c_is_tree, root_and_second, root_and_third, second_and_third_of_c}

-- The root that forgets.

forgets_goes : goes_on (play_of WrongBodies.forgets_after_first_ack) ≡ true
unfolding computing
forgets_goes = refl

forgets_stands : MayHappen
    (reached WrongBodies.forgets_after_first_ack).net WrongBodies.forgets_after_first_ack.process
    WrongBodies.forgets_after_first_ack.happening
unfolding computing
forgets_stands = record { sender = process 2; place = 12; stands = refl }

forgets_free : IsFree (left_by WrongBodies.forgets_after_first_ack).net (top PresumeAbort) third
unfolding computing
forgets_free = refl

abbrev forgets_reading : Reading
forgets_reading = pair_reading tree_a (left_by WrongBodies.forgets_after_first_ack) (top PresumeAbort) third

forgets_says : IsEndedEarly forgets_reading
unfolding computing
forgets_says = record {
  ended = refl;
  asked = refl;
  promised = refl;
  no_commit = refl;
  no_abort = refl;
  not_forgotten = refl;
}

pub forgets_after_first_ack : Breaks WrongBodies.forgets_after_first_ack
forgets_after_first_ack = by_pair WrongBodies.forgets_after_first_ack
    (top PresumeAbort) third forgets_goes refl tree_a_is_tree forgets_stands
    (root_and_third PresumeAbort) forgets_free (ended_early forgets_reading forgets_says)

-- The coordinator that says READ.

reads_goes : goes_on (play_of WrongBodies.reads_over_a_yes) ≡ true
unfolding computing
reads_goes = refl

reads_stands : MayHappen
    (reached WrongBodies.reads_over_a_yes).net WrongBodies.reads_over_a_yes.process
    WrongBodies.reads_over_a_yes.happening
unfolding computing
reads_stands = record { sender = process 3; place = 11; stands = refl }

reads_free : IsFree (left_by WrongBodies.reads_over_a_yes).net (case_at PresumeAbort second) third
unfolding computing
reads_free = refl

abbrev reads_reading : Reading
reads_reading = pair_reading tree_c (left_by WrongBodies.reads_over_a_yes) (case_at PresumeAbort second) third

reads_says : IsReadOverAVote reads_reading
unfolding computing
reads_says = record {
  read = refl;
  accepted = refl;
  no_read = refl;
}

pub reads_over_a_yes : Breaks WrongBodies.reads_over_a_yes
reads_over_a_yes = by_pair WrongBodies.reads_over_a_yes
    (case_at PresumeAbort second) third reads_goes refl tree_c_is_tree reads_stands
    (second_and_third_of_c PresumeAbort) reads_free (read_over_a_vote reads_reading reads_says)

-- The manager that drops its operator's decision.

told_goes : goes_on (play_of WrongBodies.told_drops_decision) ≡ true
unfolding computing
told_goes = refl

told_stands : MayHappen
    (reached WrongBodies.told_drops_decision).net WrongBodies.told_drops_decision.process
    WrongBodies.told_drops_decision.happening
unfolding computing
told_stands = record { sender = process 1; place = 5; stands = refl }

told_free : IsFree (left_by WrongBodies.told_drops_decision).net (top PresumeAbort) second
unfolding computing
told_free = refl

abbrev told_reading : Reading
told_reading = pair_reading tree_a (left_by WrongBodies.told_drops_decision) (top PresumeAbort) second

told_says : IsDecisionLost told_reading
unfolding computing
told_says = record {
  ever = refl;
  lost = refl;
  not_forgotten = refl;
}

pub told_drops_decision : Breaks WrongBodies.told_drops_decision
told_drops_decision = by_pair WrongBodies.told_drops_decision
    (top PresumeAbort) second told_goes refl tree_a_is_tree told_stands
    (root_and_second PresumeAbort) told_free (decision_lost told_reading told_says)

-- The root that does not wait for all votes.

commits_goes : goes_on (play_of WrongBodies.commits_on_votes_so_far) ≡ true
unfolding computing
commits_goes = refl

commits_stands : MayHappen
    (reached WrongBodies.commits_on_votes_so_far).net WrongBodies.commits_on_votes_so_far.process
    WrongBodies.commits_on_votes_so_far.happening
unfolding computing
commits_stands = record { sender = process 2; place = 8; stands = refl }

commits_free : IsFree (left_by WrongBodies.commits_on_votes_so_far).net (top PresumeAbort) third
unfolding computing
commits_free = refl

abbrev commits_reading : Reading
commits_reading = pair_reading tree_a (left_by WrongBodies.commits_on_votes_so_far) (top PresumeAbort) third

commits_says : IsUnvoted commits_reading
unfolding computing
commits_says = record {
  decided = refl;
  accepted = refl;
  no_yes = refl;
  no_read = refl;
}

pub commits_on_votes_so_far : Breaks WrongBodies.commits_on_votes_so_far
commits_on_votes_so_far = by_pair WrongBodies.commits_on_votes_so_far
    (top PresumeAbort) third commits_goes refl tree_a_is_tree commits_stands
    (root_and_third PresumeAbort) commits_free (unvoted commits_reading commits_says)
