-- Each move of the protocol keeps the invariant of a pair: the laws, one record for each group of moves and
-- presumption.
use Rattle.std.specs.Prelude.{Bool}
use Rattle.proof_pairs.specs.Standing
use Rattle.proof_pairs.specs.Invariant.{PresumedAbort, PresumedCommit}
use Rattle.proof_pairs.specs.Keeps.{KeepsInvariant}
use Rattle.proof_pairs.specs.ChildMoves
use Rattle.proof_pairs.specs.ChildCrash
use Rattle.proof_pairs.specs.ParentMoves
use Rattle.proof_pairs.specs.RootMoves
use Rattle.proof_pairs.specs.CascadedMoves
use Rattle.proof_pairs.specs.ParentCrash
use Rattle.proof_pairs.specs.ChildCrash.{ChildFront}
use Rattle.proof_pairs.specs.ParentCrash.{ParentFront}

-- Each row of a child keeps the invariant, under Presumed Abort.
pub record ChildRowsUnderAbort : Type 0 where
  pub issues : KeepsInvariant PresumedAbort ChildMoves.MayIssue ChildMoves.issues
  pub votes_yes : KeepsInvariant PresumedAbort ChildMoves.MayVote ChildMoves.votes_yes
  pub votes_no : KeepsInvariant PresumedAbort ChildMoves.MayVote ChildMoves.votes_no
  pub votes_read : KeepsInvariant PresumedAbort ChildMoves.MayVote ChildMoves.votes_read
  pub drops : KeepsInvariant PresumedAbort ChildMoves.MayDrop ChildMoves.drops
  pub repeats_yes : KeepsInvariant PresumedAbort ChildMoves.MayRepeatYes ChildMoves.repeats_yes
  pub refuses : KeepsInvariant PresumedAbort ChildMoves.MayRefuse ChildMoves.refuses
  pub commits : KeepsInvariant PresumedAbort ChildMoves.MayLearnCommit ChildMoves.commits_forced
  pub rolls_back : KeepsInvariant PresumedAbort ChildMoves.MayLearnAbort ChildMoves.rolls_back
  pub acknowledges : KeepsInvariant PresumedAbort ChildMoves.MayAcknowledgeCommit ChildMoves.acknowledges
  pub learns_commit : KeepsInvariant PresumedAbort ChildMoves.MayLearnCommit ChildMoves.learns_commit_forced
  pub acknowledges_settled : KeepsInvariant PresumedAbort ChildMoves.MayAcknowledge ChildMoves.acknowledges
  pub asks : KeepsInvariant PresumedAbort ChildMoves.MayAsk ChildMoves.asks

-- Each row of a child keeps the invariant, under Presumed Commit.
pub record ChildRowsUnderCommit : Type 0 where
  pub issues : KeepsInvariant PresumedCommit ChildMoves.MayIssue ChildMoves.issues
  pub votes_yes : KeepsInvariant PresumedCommit ChildMoves.MayVote ChildMoves.votes_yes
  pub votes_no : KeepsInvariant PresumedCommit ChildMoves.MayVote ChildMoves.votes_no
  pub votes_read : KeepsInvariant PresumedCommit ChildMoves.MayVote ChildMoves.votes_read
  pub drops : KeepsInvariant PresumedCommit ChildMoves.MayDrop ChildMoves.drops
  pub drops_and_acknowledges : KeepsInvariant PresumedCommit ChildMoves.MayDropAndAcknowledge
      ChildMoves.drops_and_acknowledges
  pub repeats_yes : KeepsInvariant PresumedCommit ChildMoves.MayRepeatYes ChildMoves.repeats_yes
  pub refuses : KeepsInvariant PresumedCommit ChildMoves.MayRefuse ChildMoves.refuses
  pub commits : KeepsInvariant PresumedCommit ChildMoves.MayLearnCommit ChildMoves.commits
  pub rolls_back : KeepsInvariant PresumedCommit ChildMoves.MayLearnAbort ChildMoves.rolls_back_forced
  pub acknowledges : KeepsInvariant PresumedCommit ChildMoves.MayAcknowledgeAbort ChildMoves.acknowledges
  pub learns_abort : KeepsInvariant PresumedCommit ChildMoves.MayLearnAbort ChildMoves.learns_abort_forced
  pub acknowledges_settled : KeepsInvariant PresumedCommit ChildMoves.MayAcknowledge ChildMoves.acknowledges
  pub asks : KeepsInvariant PresumedCommit ChildMoves.MayAsk ChildMoves.asks

-- An operator's decision and the Forgot after it keep the invariant, also where the device fails, under
-- Presumed Abort.
pub record HeuristicRowsUnderAbort : Type 0 where
  pub decides_alone : (commit : Bool)
      → KeepsInvariant PresumedAbort ChildMoves.MayDecideAlone (ChildMoves.decides_alone commit)
  pub forgets : KeepsInvariant PresumedAbort ChildMoves.MayForget ChildMoves.forgets
  pub fails_to_decide_alone : (commit : Bool)
      → KeepsInvariant PresumedAbort ChildCrash.MayFailToDecideAlone (ChildCrash.fails_to_decide_alone commit)
  pub fails_to_forget : KeepsInvariant PresumedAbort ChildCrash.MayFailToForget ChildCrash.fails_to_forget

-- An operator's decision and the Forgot after it keep the invariant, also where the device fails, under
-- Presumed Commit.
pub record HeuristicRowsUnderCommit : Type 0 where
  pub decides_alone : (commit : Bool)
      → KeepsInvariant PresumedCommit ChildMoves.MayDecideAlone (ChildMoves.decides_alone commit)
  pub forgets : KeepsInvariant PresumedCommit ChildMoves.MayForget ChildMoves.forgets
  pub fails_to_decide_alone : (commit : Bool)
      → KeepsInvariant PresumedCommit ChildCrash.MayFailToDecideAlone
      (ChildCrash.fails_to_decide_alone commit)
  pub fails_to_forget : KeepsInvariant PresumedCommit ChildCrash.MayFailToForget ChildCrash.fails_to_forget

-- Each fault at the child keeps the invariant, and each restart of it, under Presumed Abort.
pub record ChildCrashesUnderAbort : Type 0 where
  pub child_fails : KeepsInvariant PresumedAbort ChildCrash.MayFailChild ChildCrash.child_fails
  pub fails_to_promise : KeepsInvariant PresumedAbort ChildCrash.MayFailToPromise ChildCrash.fails_to_promise
  pub fails_to_commit : KeepsInvariant PresumedAbort ChildCrash.MayFailToLearnCommit
      ChildCrash.fails_to_commit
  pub fails_to_roll_back : KeepsInvariant PresumedAbort ChildCrash.MayFailToLearnAbort
      ChildCrash.fails_to_roll_back
  pub hardens_failed_child : (front : ChildFront)
      → KeepsInvariant PresumedAbort (ChildCrash.MayHardenFailedChild front)
      (ChildCrash.hardens_failed_child front)
  pub child_loses : (front : ChildFront)
      → KeepsInvariant PresumedAbort (ChildCrash.IsChildFront front) (ChildCrash.child_loses front)
  pub child_reopens : KeepsInvariant PresumedAbort ChildCrash.MayReopenChild ChildCrash.child_reopens
  pub child_restarts : (front : ChildFront)
      → KeepsInvariant PresumedAbort (ChildCrash.IsChildFront front) (ChildCrash.child_restarts front)

-- Each fault at the child keeps the invariant, and each restart of it, under Presumed Commit.
pub record ChildCrashesUnderCommit : Type 0 where
  pub child_fails : KeepsInvariant PresumedCommit ChildCrash.MayFailChild ChildCrash.child_fails
  pub fails_to_promise : KeepsInvariant PresumedCommit ChildCrash.MayFailToPromise ChildCrash.fails_to_promise
  pub fails_to_commit : KeepsInvariant PresumedCommit ChildCrash.MayFailToLearnCommit
      ChildCrash.fails_to_commit
  pub fails_to_roll_back : KeepsInvariant PresumedCommit ChildCrash.MayFailToLearnAbort
      ChildCrash.fails_to_roll_back
  pub hardens_failed_child : (front : ChildFront)
      → KeepsInvariant PresumedCommit (ChildCrash.MayHardenFailedChild front)
      (ChildCrash.hardens_failed_child front)
  pub child_loses : (front : ChildFront)
      → KeepsInvariant PresumedCommit (ChildCrash.IsChildFront front) (ChildCrash.child_loses front)
  pub child_reopens : KeepsInvariant PresumedCommit ChildCrash.MayReopenChild ChildCrash.child_reopens
  pub child_restarts : (front : ChildFront)
      → KeepsInvariant PresumedCommit (ChildCrash.IsChildFront front) (ChildCrash.child_restarts front)

-- Each row of a coordinator as a parent keeps the invariant, under Presumed Abort.
pub record ParentRowsUnderAbort : Type 0 where
  pub accepts : KeepsInvariant PresumedAbort ParentMoves.MayAccept ParentMoves.accepts
  pub asks_for_votes : KeepsInvariant PresumedAbort ParentMoves.MayAskForVotes ParentMoves.asks_for_votes
  pub hears_yes : KeepsInvariant PresumedAbort ParentMoves.MayHearYes ParentMoves.hears_yes
  pub hears_read : KeepsInvariant PresumedAbort ParentMoves.MayHearRead ParentMoves.hears_read
  pub hears_no : KeepsInvariant PresumedAbort ParentMoves.MayHearNo ParentMoves.hears_no
  pub aborts : KeepsInvariant PresumedAbort ParentMoves.MayAbort ParentMoves.aborts
  pub gives_up : KeepsInvariant PresumedAbort ParentMoves.MayGiveUp ParentMoves.gives_up
  pub hears_ack : KeepsInvariant PresumedAbort ParentMoves.MayHearAck ParentMoves.hears_ack
  pub ends : KeepsInvariant PresumedAbort ParentMoves.MayEndCommit ParentMoves.ends
  pub answers_commit : KeepsInvariant PresumedAbort ParentMoves.MayAnswerCommit ParentMoves.answers_commit
  pub presumes : KeepsInvariant PresumedAbort ParentMoves.MayPresumeAbort ParentMoves.answers_abort

-- Each row of a coordinator as a parent keeps the invariant, under Presumed Commit.
pub record ParentRowsUnderCommit : Type 0 where
  pub accepts : KeepsInvariant PresumedCommit ParentMoves.MayAccept ParentMoves.accepts
  pub asks_for_votes : KeepsInvariant PresumedCommit ParentMoves.MayAskForVotes ParentMoves.collects_votes
  pub hears_yes : KeepsInvariant PresumedCommit ParentMoves.MayHearYes ParentMoves.hears_yes
  pub hears_read : KeepsInvariant PresumedCommit ParentMoves.MayHearRead ParentMoves.hears_read
  pub hears_no : KeepsInvariant PresumedCommit ParentMoves.MayHearNo ParentMoves.hears_no_forced
  pub aborts : KeepsInvariant PresumedCommit ParentMoves.MayAbort ParentMoves.aborts_forced
  pub gives_up : KeepsInvariant PresumedCommit ParentMoves.MayGiveUp ParentMoves.gives_up
  pub hears_ack : KeepsInvariant PresumedCommit ParentMoves.MayHearAck ParentMoves.hears_ack
  pub ends : KeepsInvariant PresumedCommit ParentMoves.MayEndAbort ParentMoves.ends
  pub answers_abort : KeepsInvariant PresumedCommit ParentMoves.MayAnswerAbort ParentMoves.answers_abort
  pub presumes : KeepsInvariant PresumedCommit ParentMoves.MayPresumeCommit ParentMoves.answers_commit

-- Each row of the root alone keeps the invariant, under Presumed Abort.
pub record RootRowsUnderAbort : Type 0 where
  pub begins : KeepsInvariant PresumedAbort RootMoves.MayBegin RootMoves.begins
  pub ends_empty : KeepsInvariant PresumedAbort RootMoves.MayEndEmpty RootMoves.ends_empty
  pub ends_read_only : KeepsInvariant PresumedAbort RootMoves.MayEndReadOnly RootMoves.ends_read_only
  pub decides : KeepsInvariant PresumedAbort RootMoves.MayDecide RootMoves.decides_naming

-- Each row of the root alone keeps the invariant, under Presumed Commit.
pub record RootRowsUnderCommit : Type 0 where
  pub begins : KeepsInvariant PresumedCommit RootMoves.MayBegin RootMoves.begins
  pub ends_empty : KeepsInvariant PresumedCommit RootMoves.MayEndEmpty RootMoves.ends_empty
  pub ends_read_only : KeepsInvariant PresumedCommit RootMoves.MayEndReadOnly
      RootMoves.ends_read_only_collected
  pub decides : KeepsInvariant PresumedCommit RootMoves.MayDecide RootMoves.decides

-- Each row of a cascaded coordinator alone keeps the invariant, and what becomes true above it, under
-- Presumed Abort.
pub record CascadedRowsUnderAbort : Type 0 where
  pub is_born : KeepsInvariant PresumedAbort CascadedMoves.MayBeBorn CascadedMoves.is_born
  pub takes_part : KeepsInvariant PresumedAbort CascadedMoves.MayTakePart CascadedMoves.takes_part
  pub commits_above : KeepsInvariant PresumedAbort CascadedMoves.MayCommitAbove CascadedMoves.commits_above
  pub reads_empty : KeepsInvariant PresumedAbort CascadedMoves.MayReadEmpty CascadedMoves.reads_empty
  pub reads_up : KeepsInvariant PresumedAbort CascadedMoves.MayReadUp CascadedMoves.reads_up
  pub promises : KeepsInvariant PresumedAbort CascadedMoves.MayPromise CascadedMoves.promises
  pub passes_commit : KeepsInvariant PresumedAbort CascadedMoves.MayPassCommit
      CascadedMoves.passes_commit_forced
  pub passes_abort : KeepsInvariant PresumedAbort CascadedMoves.MayPassAbort CascadedMoves.passes_abort

-- Each row of a cascaded coordinator alone keeps the invariant, and what becomes true above it, under
-- Presumed Commit.
pub record CascadedRowsUnderCommit : Type 0 where
  pub is_born : KeepsInvariant PresumedCommit CascadedMoves.MayBeBorn CascadedMoves.is_born
  pub takes_part : KeepsInvariant PresumedCommit CascadedMoves.MayTakePart CascadedMoves.takes_part
  pub commits_above : KeepsInvariant PresumedCommit CascadedMoves.MayCommitAbove CascadedMoves.commits_above
  pub reads_empty : KeepsInvariant PresumedCommit CascadedMoves.MayReadEmpty CascadedMoves.reads_empty
  pub reads_up : KeepsInvariant PresumedCommit CascadedMoves.MayReadUp CascadedMoves.reads_up_collected
  pub promises : KeepsInvariant PresumedCommit CascadedMoves.MayPromise CascadedMoves.promises
  pub passes_commit : KeepsInvariant PresumedCommit CascadedMoves.MayPassCommit CascadedMoves.passes_commit
  pub passes_abort : KeepsInvariant PresumedCommit CascadedMoves.MayPassAbort
      CascadedMoves.passes_abort_forced

-- Each fault at the parent keeps the invariant, and each restart of it, under Presumed Abort.
pub record ParentCrashesUnderAbort : Type 0 where
  pub parent_fails : KeepsInvariant PresumedAbort ParentCrash.MayFailParent ParentCrash.parent_fails
  pub fails_to_hear_no : KeepsInvariant PresumedAbort ParentMoves.MayHearNo ParentCrash.fails_to_hear_no
  pub fails_at_no : KeepsInvariant PresumedAbort ParentMoves.MayHearNo ParentCrash.fails_at_no
  pub fails_to_abort : KeepsInvariant PresumedAbort ParentMoves.MayAbort ParentCrash.fails_to_abort
  pub fails_to_decide : KeepsInvariant PresumedAbort RootMoves.MayDecide ParentCrash.fails_to_decide_naming
  pub fails_to_promise_up : KeepsInvariant PresumedAbort CascadedMoves.MayPromise
      ParentCrash.fails_to_promise_up
  pub fails_to_pass_commit : KeepsInvariant PresumedAbort CascadedMoves.MayPassCommit
      ParentCrash.fails_to_pass_commit_naming
  pub fails_to_pass_abort : KeepsInvariant PresumedAbort CascadedMoves.MayPassAbort
      ParentCrash.fails_to_pass_abort
  pub fails_to_end : KeepsInvariant PresumedAbort ParentMoves.MayEndCommit ParentCrash.fails_to_end
  pub hardens_failed_parent : (front : ParentFront)
      → KeepsInvariant PresumedAbort (ParentCrash.MayHardenFailedParent front)
      (ParentCrash.hardens_failed_parent front)
  pub parent_loses : (front : ParentFront)
      → KeepsInvariant PresumedAbort (ParentCrash.IsParentFront front) (ParentCrash.parent_loses front)
  pub parent_reopens : KeepsInvariant PresumedAbort ParentCrash.MayReopenParent
      ParentCrash.parent_reopens_naming
  pub parent_restarts : (front : ParentFront)
      → KeepsInvariant PresumedAbort (ParentCrash.IsParentFront front)
      (ParentCrash.parent_restarts_naming front)

-- Each fault at the parent keeps the invariant, and each restart of it, under Presumed Commit.
pub record ParentCrashesUnderCommit : Type 0 where
  pub parent_fails : KeepsInvariant PresumedCommit ParentCrash.MayFailParent ParentCrash.parent_fails
  pub fails_to_collect : KeepsInvariant PresumedCommit ParentCrash.MayFailToCollect
      ParentCrash.fails_to_collect
  pub fails_to_hear_no : KeepsInvariant PresumedCommit ParentMoves.MayHearNo ParentCrash.fails_to_hear_no
  pub fails_at_no : KeepsInvariant PresumedCommit ParentMoves.MayHearNo ParentCrash.fails_at_no
  pub fails_to_abort : KeepsInvariant PresumedCommit ParentMoves.MayAbort ParentCrash.fails_to_abort_naming
  pub fails_to_abort_at_restart : KeepsInvariant PresumedCommit ParentCrash.MayAbortAtRestart
      ParentCrash.fails_to_abort_at_restart
  pub fails_to_end_read_only : KeepsInvariant PresumedCommit ParentCrash.MayFailToEndReadOnly
      ParentCrash.fails_to_end_read_only
  pub fails_to_decide : KeepsInvariant PresumedCommit RootMoves.MayDecide ParentCrash.fails_to_decide
  pub fails_to_promise_up : KeepsInvariant PresumedCommit CascadedMoves.MayPromise
      ParentCrash.fails_to_promise_up
  pub fails_to_pass_commit : KeepsInvariant PresumedCommit CascadedMoves.MayPassCommit
      ParentCrash.fails_to_pass_commit
  pub fails_to_pass_abort : KeepsInvariant PresumedCommit CascadedMoves.MayPassAbort
      ParentCrash.fails_to_pass_abort_naming
  pub fails_to_end : KeepsInvariant PresumedCommit ParentMoves.MayEndAbort ParentCrash.fails_to_end
  pub hardens_failed_parent : (front : ParentFront)
      → KeepsInvariant PresumedCommit (ParentCrash.MayHardenFailedParent front)
      (ParentCrash.hardens_failed_parent front)
  pub parent_loses : (front : ParentFront)
      → KeepsInvariant PresumedCommit (ParentCrash.IsParentFront front) (ParentCrash.parent_loses front)
  pub parent_reopens : KeepsInvariant PresumedCommit ParentCrash.MayReopenParent ParentCrash.parent_reopens
  pub parent_restarts : (front : ParentFront)
      → KeepsInvariant PresumedCommit (ParentCrash.IsParentFront front) (ParentCrash.parent_restarts front)

-- A force for the sake of another case keeps the invariant, and a trim, at the child and at the parent,
-- under Presumed Abort.
pub record LogMovesUnderAbort : Type 0 where
  pub hardens_child : KeepsInvariant PresumedAbort ChildMoves.MayHardenChild ChildMoves.hardens_child
  pub trims_child : KeepsInvariant PresumedAbort ChildMoves.MayTrimChild ChildMoves.trims_child
  pub hardens_parent : KeepsInvariant PresumedAbort ParentMoves.MayHardenParent ParentMoves.hardens_parent
  pub trims_parent : KeepsInvariant PresumedAbort Standing.IsUnknownUnderAbort ParentMoves.trims_parent

-- A force for the sake of another case keeps the invariant, and a trim, at the child and at the parent,
-- under Presumed Commit.
pub record LogMovesUnderCommit : Type 0 where
  pub hardens_child : KeepsInvariant PresumedCommit ChildMoves.MayHardenChild ChildMoves.hardens_child
  pub trims_child : KeepsInvariant PresumedCommit ChildMoves.MayTrimChild ChildMoves.trims_child
  pub hardens_parent : KeepsInvariant PresumedCommit ParentMoves.MayHardenParent ParentMoves.hardens_parent
  pub trims_parent : KeepsInvariant PresumedCommit Standing.IsUnknownUnderCommit ParentMoves.trims_parent
