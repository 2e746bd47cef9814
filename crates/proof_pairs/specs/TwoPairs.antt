-- One step of a cascaded coordinator, seen from the pair above it and from a pair below it: the two readings
-- of the one case change alike. So what one pair proves of its child, the next may use of its parent.
use Rattle.std.specs.Prelude.{◌≡◌, true, false, ◌&&◌}
use Rattle.proof_pairs.specs.Reading.{Reading}
use Rattle.proof_pairs.specs.Invariant.{Common}
use Rattle.proof_pairs.specs.Chain.{IsBelow}
use Rattle.proof_pairs.specs.ChildMoves
use Rattle.proof_pairs.specs.ChildCrash
use Rattle.proof_pairs.specs.ParentMoves
use Rattle.proof_pairs.specs.RootMoves
use Rattle.proof_pairs.specs.CascadedMoves
use Rattle.proof_pairs.specs.ParentCrash
use Rattle.proof_pairs.specs.ChildCrash.{ChildFront}
use Rattle.proof_pairs.specs.ParentCrash.{ParentFront}

-- The step leaves this reading.
abbrev pub same : Reading → Reading
same r = r

-- The pair above makes one move and the pair below another, and they still speak of one case.
abbrev pub Together : (Reading → Reading → Type 0) → (Reading → Reading) → (Reading → Reading) → Type 0
Together May up down = (a b : Reading) → Common a → Common b → IsBelow a b → May a b
    → IsBelow (up a) (down b)

-- Two fronts of one log hold the same records of the case.
pub record SameFront (above : ChildFront) (below : ParentFront) : Type 0 where
  pub promise : below.own_prepare ≡ above.prepared
  pub commit : below.commit ≡ above.learnt_commit
  pub abort : (below.abort && below.own_prepare) ≡ above.learnt_abort
  pub no_heuristic : above.heuristic ≡ false
  pub no_forgot : above.forgot ≡ false

-- One step of the process that two pairs share moves both: how it moves each.
pub record OneStep : Type 0 where
  -- A JOIN makes the case.
  pub join_makes_a_case : Together (λ a b. ChildMoves.MayIssue a) ChildMoves.issues CascadedMoves.is_born
  -- Accepted by a case that takes part: the child takes part.
  pub joins_a_participant : Together (λ a b. a.took_part_up ≡ true) ParentMoves.accepts
      CascadedMoves.takes_part
  -- Accepted by one that does not: nothing changes below yet.
  pub joins_a_bystander : Together (λ a b. a.took_part_up ≡ false) ParentMoves.accepts same
  -- The case above becomes a participant, and with it each child that it accepted.
  pub takes_part_with_its_child : Together (λ a b. a.took_part ≡ true) CascadedMoves.takes_part
      CascadedMoves.takes_part
  -- A child that it did not accept takes no part.
  pub takes_part_without_it : Together (λ a b. a.took_part ≡ false) CascadedMoves.takes_part same
  -- The root decides, naming whom it waits for.
  pub root_commits : Together (λ a b. Unit {0}) RootMoves.decides_naming CascadedMoves.commits_above
  -- The root decides, naming nobody.
  pub root_commits_collected : Together (λ a b. Unit {0}) RootMoves.decides CascadedMoves.commits_above
  -- What the root decided becomes true of the next pair.
  pub commits_above : Together (λ a b. Unit {0}) CascadedMoves.commits_above CascadedMoves.commits_above
  -- PREPARE: the case asks its own children.
  pub asks_its_children : Together (λ a b. ParentMoves.MayAskForVotes b) same ParentMoves.asks_for_votes
  -- PREPARE: the case forces Collecting first, and then asks its own children.
  pub collects_its_children : Together (λ a b. ParentMoves.MayAskForVotes b) same ParentMoves.collects_votes
  -- All its children voted: the promise, and YES.
  pub promises : Together (λ a b. CascadedMoves.MayPromise b) ChildMoves.votes_yes CascadedMoves.promises
  -- No children: READ.
  pub reads_empty : Together (λ a b. Unit {0}) ChildMoves.votes_read CascadedMoves.reads_empty
  -- All its children voted READ: READ.
  pub reads : Together (λ a b. Unit {0}) ChildMoves.votes_read CascadedMoves.reads_up
  -- All its children voted READ: End after Collecting, and READ.
  pub reads_collected : Together (λ a b. Unit {0}) ChildMoves.votes_read CascadedMoves.reads_up_collected
  -- A child voted NO: NO.
  pub hears_no : Together (λ a b. ParentMoves.MayHearNo b) ChildMoves.votes_no ParentMoves.hears_no
  -- A child voted NO: its Abort is forced, and NO.
  pub hears_no_forced : Together (λ a b. ParentMoves.MayHearNo b) ChildMoves.votes_no
      ParentMoves.hears_no_forced
  -- Another child voted NO: NO.
  pub aborts_by_no : Together (λ a b. ParentMoves.MayAbort b) ChildMoves.votes_no ParentMoves.aborts
  -- Another child voted NO: its Abort is forced, and NO.
  pub aborts_by_no_forced : Together (λ a b. ParentMoves.MayAbort b) ChildMoves.votes_no
      ParentMoves.aborts_forced
  -- ABORT while it waits for votes.
  pub aborts : Together (λ a b. ParentMoves.MayAbort b) ChildMoves.drops ParentMoves.aborts
  -- ABORT while it waits for votes: its Abort is forced, and an ACK.
  pub aborts_forced : Together (λ a b. ParentMoves.MayAbort b) ChildMoves.drops_and_acknowledges
      ParentMoves.aborts_forced
  -- ABORT while it is Active.
  pub gives_up : Together (λ a b. Unit {0}) ChildMoves.drops ParentMoves.gives_up
  -- ABORT while it is Active, and an ACK.
  pub gives_up_and_acknowledges : Together (λ a b. Unit {0}) ChildMoves.drops_and_acknowledges
      ParentMoves.gives_up
  -- COMMIT finds it Prepared; Commit is forced.
  pub passes_commit_forced : Together (λ a b. CascadedMoves.MayPassCommit b) ChildMoves.commits_forced
      CascadedMoves.passes_commit_forced
  -- COMMIT finds it Prepared; Commit is unforced.
  pub passes_commit : Together (λ a b. CascadedMoves.MayPassCommit b) ChildMoves.commits
      CascadedMoves.passes_commit
  -- ABORT finds it Prepared; Abort is unforced.
  pub passes_abort : Together (λ a b. CascadedMoves.MayPassAbort b) ChildMoves.rolls_back
      CascadedMoves.passes_abort
  -- ABORT finds it Prepared; Abort is forced.
  pub passes_abort_forced : Together (λ a b. CascadedMoves.MayPassAbort b) ChildMoves.rolls_back_forced
      CascadedMoves.passes_abort_forced
  -- The second version: COMMIT, or ABORT, finds it Prepared, and its ACK waits; ABORT finds it waiting for
  -- votes; the last ACK that is owed to it came, and its own goes up.
  pub waits_to_acknowledge_commit : Together (λ a b. CascadedMoves.MayPassCommit b)
      ChildMoves.learns_commit_forced
      CascadedMoves.passes_commit_forced
  pub waits_to_acknowledge_abort : Together (λ a b. CascadedMoves.MayPassAbort b)
      ChildMoves.learns_abort_forced
      CascadedMoves.passes_abort_forced
  pub aborts_silently : Together (λ a b. ParentMoves.MayAbort b) ChildMoves.drops ParentMoves.aborts_forced
  pub ends_commit : Together (λ a b. ParentMoves.MayEndCommit b) ChildMoves.acknowledges ParentMoves.ends
  pub ends_abort : Together (λ a b. ParentMoves.MayEndAbort b) ChildMoves.acknowledges ParentMoves.ends
  -- A record of another case is forced.
  pub hardens : Together (λ a b. Unit {0}) ChildMoves.hardens_child ParentMoves.hardens_parent
  -- A trim takes the case.
  pub trims : Together (λ a b. Unit {0}) ChildMoves.trims_child ParentMoves.trims_parent
  -- A fault writes nothing of the case.
  pub fails : Together (λ a b. Unit {0}) ChildCrash.child_fails ParentCrash.parent_fails
  -- A fault after Collecting.
  pub fails_to_collect : Together (λ a b. ParentCrash.MayFailToCollect b) ChildCrash.child_fails
      ParentCrash.fails_to_collect
  -- A fault after the Abort of a case that waits for votes.
  pub fails_to_abort : Together (λ a b. ParentMoves.MayAbort b) ChildCrash.child_fails
      ParentCrash.fails_to_abort
  -- A fault after the promise.
  pub fails_to_promise : Together (λ a b. CascadedMoves.MayPromise b) ChildCrash.fails_to_promise
      ParentCrash.fails_to_promise_up
  -- A fault after the Commit that obeys.
  pub fails_to_pass_commit : Together (λ a b. CascadedMoves.MayPassCommit b) ChildCrash.fails_to_commit
      ParentCrash.fails_to_pass_commit
  -- A fault after the Abort that obeys.
  pub fails_to_pass_abort : Together (λ a b. CascadedMoves.MayPassAbort b) ChildCrash.fails_to_roll_back
      ParentCrash.fails_to_pass_abort
  -- A restart forces what is left and answers.
  pub reopens_naming : Together (λ a b. ParentCrash.MayReopenParent b) ChildCrash.child_reopens
      ParentCrash.parent_reopens_naming
  -- A restart forces what is left and answers; an undecided case aborts.
  pub reopens : Together (λ a b. ParentCrash.MayReopenParent b) ChildCrash.child_reopens
      ParentCrash.parent_reopens
  -- The cut of a restart: both lose the same records.
  pub loses : (front : ChildFront) (below_front : ParentFront) → SameFront front below_front
      → Together (λ a b. Unit {0}) (ChildCrash.child_loses front) (ParentCrash.parent_loses below_front)
