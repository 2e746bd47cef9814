-- The wrong bodies under Presumed Commit that break a pair.
use Rattle.std.proofs.Common.{◌≡◌, arith, true, refl}
use Rattle.protocol.specs.declared.names.Presumption.TheVariants.{PresumeCommit}
use Rattle.protocol.specs.World.{MayHappen}
use Rattle.protocol.specs.Rows.{process, tree_a, tree_b}
use Rattle.proof_processes.specs.WorldHolds.{IsFree, pair_reading}
use Rattle.proof_pairs.specs.Reading.{Reading}
use Rattle.proof_worked.specs.wrong.WrongSteps.{Breaks}
use Rattle.proof_worked.specs.wrong.WrongBodies.{top, case_at, second, third}
use Rattle.proof_worked.specs.wrong.WrongBodies
use Rattle.proof_worked.proofs.wrong.Computing.{computing}
use Rattle.proof_worked.proofs.wrong.PlayedRuns.{goes_on}
use Rattle.proof_worked.proofs.wrong.Breaking.{play_of, reached, left_by, by_pair, IsAskedEarly, asked_early, IsContradicted, contradicted, IsDecisionDropped, decision_dropped}
use Rattle.proof_worked.proofs.wrong.Trees.{tree_a_is_tree, tree_b_is_tree, root_and_second, second_and_third}

-- The root that asks before it has written whom.

asks_goes : goes_on (play_of WrongBodies.prepare_before_collecting) ≡ true
unfolding computing
asks_goes = refl

asks_stands : MayHappen
    (reached WrongBodies.prepare_before_collecting).net WrongBodies.prepare_before_collecting.process
    WrongBodies.prepare_before_collecting.happening
unfolding computing
asks_stands = tt

asks_free : IsFree (left_by WrongBodies.prepare_before_collecting).net (top PresumeCommit) second
unfolding computing
asks_free = refl

abbrev asks_reading : Reading
asks_reading = pair_reading tree_a (left_by WrongBodies.prepare_before_collecting) (top PresumeCommit) second

asks_says : IsAskedEarly asks_reading
unfolding computing
asks_says = record {
  asked = refl;
  undecided = refl;
  is_open = refl;
  not_forced = refl;
}

pub prepare_before_collecting : Breaks WrongBodies.prepare_before_collecting
prepare_before_collecting = by_pair WrongBodies.prepare_before_collecting
    (top PresumeCommit) second asks_goes refl tree_a_is_tree asks_stands
    (root_and_second PresumeCommit) asks_free (asked_early asks_reading asks_says)

-- The coordinator that obeys a commit after an abort.

obeys_goes : goes_on (play_of WrongBodies.obeys_contradicting_commit) ≡ true
unfolding computing
obeys_goes = refl

obeys_stands : MayHappen
    (reached WrongBodies.obeys_contradicting_commit).net WrongBodies.obeys_contradicting_commit.process
    WrongBodies.obeys_contradicting_commit.happening
unfolding computing
obeys_stands = record { sender = process 1; place = 13; stands = refl }

obeys_free : IsFree (left_by WrongBodies.obeys_contradicting_commit).net (case_at PresumeCommit second) third
unfolding computing
obeys_free = refl

abbrev obeys_reading : Reading
obeys_reading = pair_reading tree_b (left_by WrongBodies.obeys_contradicting_commit)
    (case_at PresumeCommit second) third

obeys_says : IsContradicted obeys_reading
unfolding computing
obeys_says = record {
  committed = refl;
  aborted = refl;
}

pub obeys_contradicting_commit : Breaks WrongBodies.obeys_contradicting_commit
obeys_contradicting_commit = by_pair WrongBodies.obeys_contradicting_commit
    (case_at PresumeCommit second) third obeys_goes refl tree_b_is_tree obeys_stands
    (second_and_third PresumeCommit) obeys_free (contradicted obeys_reading obeys_says)

-- The trim that drops a Commit.

trims_goes : goes_on (play_of WrongBodies.trim_drops_commit) ≡ true
unfolding computing
trims_goes = refl

trims_stands : MayHappen
    (reached WrongBodies.trim_drops_commit).net WrongBodies.trim_drops_commit.process
    WrongBodies.trim_drops_commit.happening
unfolding computing
trims_stands = tt

trims_free : IsFree (left_by WrongBodies.trim_drops_commit).net (top PresumeCommit) second
unfolding computing
trims_free = refl

abbrev trims_reading : Reading
trims_reading = pair_reading tree_a (left_by WrongBodies.trim_drops_commit) (top PresumeCommit) second

trims_says : IsDecisionDropped trims_reading
unfolding computing
trims_says = record {
  waits = refl;
  root = refl;
  decided = refl;
}

pub trim_drops_commit : Breaks WrongBodies.trim_drops_commit
trim_drops_commit = by_pair WrongBodies.trim_drops_commit
    (top PresumeCommit) second trims_goes refl tree_a_is_tree trims_stands
    (root_and_second PresumeCommit) trims_free (decision_dropped trims_reading trims_says)
