-- What comes of each wrong step: a world that does not have the headline.
use Rattle.std.proofs.Common.{◌≡◌, true, false, refl}
use Rattle.protocol_words.specs.Variants.{AbortedOutcome, CommittedOutcome}
use Rattle.protocol.specs.declared.names.Presumption.TheVariants.{PresumeAbort, PresumeCommit}
use Rattle.protocol.specs.Nodes.{AtRoot, Below, AtLeaf, role_of}
use Rattle.protocol.specs.Outcomes.{cascaded_ends, consents, first_vote, has_accepted, is_commit_outcome, manager_ends, root_ends}
use Rattle.protocol.specs.Records.{has, is_decided, is_forgot}
use Rattle.protocol.specs.Rows.{process, txn, tree_a, tree_b, tree_c}
use Rattle.protocol.specs.World.{World}
use Rattle.proof_worked.specs.wrong.WrongSteps.{Harms, plays_behind}
use Rattle.proof_worked.specs.wrong.WrongBodies.{top, case_at, second, third}
use Rattle.proof_worked.specs.wrong.WrongBodies
use Rattle.proof_worked.proofs.wrong.Computing.{computing}
use Rattle.proof_worked.proofs.wrong.PlayedRuns.{goes_on}
use Rattle.proof_worked.proofs.wrong.Breaking.{play_of, reached}
use Rattle.proof_worked.proofs.wrong.Harming.{later_of, by_later, not_aborted, not_committed, leaf_fails, below_fails, root_fails, unvoted_fails, lost_fails}

-- Manager 3 rolls back what committed.

forgets_goes : goes_on (play_of WrongBodies.forgets_after_first_ack) ≡ true
unfolding computing
forgets_goes = refl

forgets_goes_on : goes_on (plays_behind WrongBodies.forgets_after_first_ack
    (reached WrongBodies.forgets_after_first_ack)) ≡ true
unfolding computing
forgets_goes_on = refl

abbrev forgets_later : World
forgets_later = later_of WrongBodies.forgets_after_first_ack

forgets_role : role_of tree_a third.child ≡ AtLeaf (process 1)
unfolding computing
forgets_role = refl

forgets_ends : manager_ends (forgets_later.at third.child) (case_at PresumeAbort third) AbortedOutcome ≡ true
unfolding computing
forgets_ends = refl

forgets_outcome : is_commit_outcome forgets_later (txn 1 1 PresumeAbort) ≡ true
unfolding computing
forgets_outcome = refl

pub forgets_after_first_ack : Harms WrongBodies.forgets_after_first_ack
forgets_after_first_ack = by_later WrongBodies.forgets_after_first_ack forgets_goes refl forgets_goes_on refl
    (leaf_fails tree_a forgets_later (txn 1 1 PresumeAbort) third AbortedOutcome (process 1)
    forgets_role forgets_ends
    (not_aborted forgets_later (txn 1 1 PresumeAbort) forgets_outcome))

-- Manager 2 commits what the root has lost.

asks_goes : goes_on (play_of WrongBodies.prepare_before_collecting) ≡ true
unfolding computing
asks_goes = refl

asks_goes_on : goes_on (plays_behind WrongBodies.prepare_before_collecting
    (reached WrongBodies.prepare_before_collecting)) ≡ true
unfolding computing
asks_goes_on = refl

abbrev asks_later : World
asks_later = later_of WrongBodies.prepare_before_collecting

asks_role : role_of tree_a second.child ≡ AtLeaf (process 1)
unfolding computing
asks_role = refl

asks_ends : manager_ends (asks_later.at second.child) (case_at PresumeCommit second) CommittedOutcome ≡ true
unfolding computing
asks_ends = refl

asks_outcome : is_commit_outcome asks_later (txn 1 1 PresumeCommit) ≡ false
unfolding computing
asks_outcome = refl

pub prepare_before_collecting : Harms WrongBodies.prepare_before_collecting
prepare_before_collecting = by_later WrongBodies.prepare_before_collecting asks_goes refl asks_goes_on refl
    (leaf_fails tree_a asks_later (txn 1 1 PresumeCommit) second CommittedOutcome (process 1)
    asks_role asks_ends
    (not_committed asks_later (txn 1 1 PresumeCommit) asks_outcome))

-- Manager 2 rolls back what it has committed before.

reused_goes : goes_on (play_of WrongBodies.boot_reused) ≡ true
unfolding computing
reused_goes = refl

reused_goes_on : goes_on (plays_behind WrongBodies.boot_reused (reached WrongBodies.boot_reused)) ≡ true
unfolding computing
reused_goes_on = refl

abbrev reused_later : World
reused_later = later_of WrongBodies.boot_reused

reused_role : role_of tree_a second.child ≡ AtLeaf (process 1)
unfolding computing
reused_role = refl

reused_ends : manager_ends (reused_later.at second.child) (case_at PresumeAbort second) AbortedOutcome ≡ true
unfolding computing
reused_ends = refl

reused_outcome : is_commit_outcome reused_later (txn 1 1 PresumeAbort) ≡ true
unfolding computing
reused_outcome = refl

pub boot_reused : Harms WrongBodies.boot_reused
boot_reused = by_later WrongBodies.boot_reused reused_goes refl reused_goes_on refl
    (leaf_fails tree_a reused_later (txn 1 1 PresumeAbort) second AbortedOutcome (process 1)
    reused_role reused_ends
    (not_aborted reused_later (txn 1 1 PresumeAbort) reused_outcome))

-- Manager 3 rolls back what committed.

reads_goes : goes_on (play_of WrongBodies.reads_over_a_yes) ≡ true
unfolding computing
reads_goes = refl

reads_goes_on : goes_on (plays_behind WrongBodies.reads_over_a_yes (reached WrongBodies.reads_over_a_yes))
    ≡ true
unfolding computing
reads_goes_on = refl

abbrev reads_later : World
reads_later = later_of WrongBodies.reads_over_a_yes

reads_role : role_of tree_c third.child ≡ AtLeaf (process 2)
unfolding computing
reads_role = refl

reads_ends : manager_ends (reads_later.at third.child) (case_at PresumeAbort third) AbortedOutcome ≡ true
unfolding computing
reads_ends = refl

reads_outcome : is_commit_outcome reads_later (txn 1 1 PresumeAbort) ≡ true
unfolding computing
reads_outcome = refl

pub reads_over_a_yes : Harms WrongBodies.reads_over_a_yes
reads_over_a_yes = by_later WrongBodies.reads_over_a_yes reads_goes refl reads_goes_on refl
    (leaf_fails tree_c reads_later (txn 1 1 PresumeAbort) third AbortedOutcome (process 2)
    reads_role reads_ends
    (not_aborted reads_later (txn 1 1 PresumeAbort) reads_outcome))

-- Coordinator 2 commits what was aborted.

obeys_goes : goes_on (play_of WrongBodies.obeys_contradicting_commit) ≡ true
unfolding computing
obeys_goes = refl

obeys_goes_on : goes_on (plays_behind WrongBodies.obeys_contradicting_commit
    (reached WrongBodies.obeys_contradicting_commit)) ≡ true
unfolding computing
obeys_goes_on = refl

abbrev obeys_later : World
obeys_later = later_of WrongBodies.obeys_contradicting_commit

obeys_role : role_of tree_b second.child ≡ Below (process 1)
unfolding computing
obeys_role = refl

obeys_ends : cascaded_ends (obeys_later.at second.child)
    (case_at PresumeCommit second) CommittedOutcome ≡ true
unfolding computing
obeys_ends = refl

obeys_outcome : is_commit_outcome obeys_later (txn 1 1 PresumeCommit) ≡ false
unfolding computing
obeys_outcome = refl

pub obeys_contradicting_commit : Harms WrongBodies.obeys_contradicting_commit
obeys_contradicting_commit = by_later WrongBodies.obeys_contradicting_commit obeys_goes refl
    obeys_goes_on refl
    (below_fails tree_b obeys_later (txn 1 1 PresumeCommit) second CommittedOutcome (process 1)
    obeys_role obeys_ends
    (not_committed obeys_later (txn 1 1 PresumeCommit) obeys_outcome))

-- The root aborts what it has committed.

trims_goes : goes_on (play_of WrongBodies.trim_drops_commit) ≡ true
unfolding computing
trims_goes = refl

trims_goes_on : goes_on (plays_behind WrongBodies.trim_drops_commit (reached WrongBodies.trim_drops_commit))
    ≡ true
unfolding computing
trims_goes_on = refl

abbrev trims_later : World
trims_later = later_of WrongBodies.trim_drops_commit

trims_role : role_of tree_a (process 1) ≡ AtRoot
unfolding computing
trims_role = refl

trims_ends : root_ends (trims_later.at (process 1)) (txn 1 1 PresumeCommit) AbortedOutcome ≡ true
unfolding computing
trims_ends = refl

trims_outcome : is_commit_outcome trims_later (txn 1 1 PresumeCommit) ≡ true
unfolding computing
trims_outcome = refl

pub trim_drops_commit : Harms WrongBodies.trim_drops_commit
trim_drops_commit = by_later WrongBodies.trim_drops_commit trims_goes refl trims_goes_on refl
    (root_fails tree_a trims_later (txn 1 1 PresumeCommit) AbortedOutcome trims_role trims_ends
    (not_aborted trims_later (txn 1 1 PresumeCommit) trims_outcome))

-- The operator's decision is gone.

told_goes : goes_on (play_of WrongBodies.told_drops_decision) ≡ true
unfolding computing
told_goes = refl

told_goes_on : goes_on (plays_behind WrongBodies.told_drops_decision
    (reached WrongBodies.told_drops_decision)) ≡ true
unfolding computing
told_goes_on = refl

abbrev told_later : World
told_later = later_of WrongBodies.told_drops_decision

told_ever : has (is_decided (case_at PresumeAbort second) AbortedOutcome) (told_later.at
    (process 2)).durable ≡ true
unfolding computing
told_ever = refl

told_lost : has (is_decided (case_at PresumeAbort second) AbortedOutcome) (told_later.at
    (process 2)).forced ≡ false
unfolding computing
told_lost = refl

told_kept : has (is_forgot (case_at PresumeAbort second)) (told_later.at (process 2)).life ≡ false
unfolding computing
told_kept = refl

pub told_drops_decision : Harms WrongBodies.told_drops_decision
told_drops_decision = by_later WrongBodies.told_drops_decision told_goes refl told_goes_on refl
    (lost_fails tree_a told_later (case_at PresumeAbort second) AbortedOutcome told_ever told_lost told_kept)

-- No vote of manager 3 was heard.

commits_goes : goes_on (play_of WrongBodies.commits_on_votes_so_far) ≡ true
unfolding computing
commits_goes = refl

commits_goes_on : goes_on (plays_behind WrongBodies.commits_on_votes_so_far
    (reached WrongBodies.commits_on_votes_so_far)) ≡ true
unfolding computing
commits_goes_on = refl

abbrev commits_later : World
commits_later = later_of WrongBodies.commits_on_votes_so_far

commits_outcome : is_commit_outcome commits_later (txn 1 1 PresumeAbort) ≡ true
unfolding computing
commits_outcome = refl

commits_accepted : has_accepted (commits_later.at (process 1)) (top PresumeAbort) third ≡ true
unfolding computing
commits_accepted = refl

commits_unheard : consents (first_vote (commits_later.at (process 1)).voted (top PresumeAbort) third) ≡ false
unfolding computing
commits_unheard = refl

pub commits_on_votes_so_far : Harms WrongBodies.commits_on_votes_so_far
commits_on_votes_so_far = by_later WrongBodies.commits_on_votes_so_far commits_goes refl commits_goes_on refl
    (unvoted_fails tree_a commits_later
    (txn 1 1 PresumeAbort) third commits_outcome commits_accepted commits_unheard)
