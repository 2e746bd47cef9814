-- Wrong moves, each close to a right one. There is a reading that has the invariant and the wrong move's
-- guard, and the moved reading does not have the invariant: so no proof can let the move pass.
use Rattle.std.specs.Prelude.{◌≡◌, true, false, ◌||◌}
use Rattle.proof_pairs.specs.Reading.{Reading, Collecting}
use Rattle.proof_pairs.specs.Standing.{IsCommitting, IsUnknownUnderCommit}
use Rattle.proof_pairs.specs.Invariant.{PresumedAbort, PresumedCommit}
use Rattle.proof_pairs.specs.RootMoves.{decides_naming}
use Rattle.proof_pairs.specs.CascadedMoves.{MayPromise, reads_up, passes_commit}
use Rattle.proof_pairs.specs.ParentMoves.{MayAskForVotes, ends}
use Rattle.proof_pairs.specs.ChildMoves.{MayLearnCommit, issues}
use Rattle.proof_pairs.specs.StagesAbort
use Rattle.proof_pairs.specs.StagesCommit

-- The move breaks the invariant at that reading.
abbrev pub Breaks : (Reading → Type 0) → (Reading → Type 0) → (Reading → Reading) → Reading → Type 0
Breaks Inv May wrong r = Inv r × May r × (Inv (wrong r) → ⊥)

-- The root forgets after the first ACK: the End comes while this ticket's ACK is still owed.
abbrev pub forgets_after_first_ack : Reading → Reading
forgets_after_first_ack r = ends r

-- PREPARE goes out after a Collecting that is not forced.
abbrev pub prepare_before_collecting : Reading → Reading
prepare_before_collecting r = record r {
  phase = Collecting;
  collecting_kept = true;
  collects = r.accepted;
  sent_prepare = r.accepted || r.sent_prepare;
}

-- A restart gives out the last boot again, and with it the ticket's number: it is not asked to be fresh.
abbrev pub boot_reused : Reading → Reading
boot_reused r = issues r

-- A cascaded coordinator votes READ although this ticket voted YES.
abbrev pub reads_over_a_yes : Reading → Reading
reads_over_a_yes r = reads_up r

-- A cascaded coordinator obeys a COMMIT against its own Abort.
abbrev pub obeys_contradicting_commit : Reading → Reading
obeys_contradicting_commit r = passes_commit r

-- It has an Abort after its Prepare, and a late presumption from above says COMMIT.
pub record HasAborted (r : Reading) : Type 0 where
  pub cascaded : r.parent_is_root ≡ false
  pub up : r.failed ≡ false
  pub promised : r.own_prepare_kept ≡ true
  pub aborted : r.abort_kept ≡ true

-- A trim drops the Commit of a case and keeps its Collecting.
abbrev pub trim_drops_commit : Reading → Reading
trim_drops_commit r = record r { commit_kept = false; commit_forced = false }

-- A manager that is told to commit drops its operator's decision.
abbrev pub told_drops_decision : Reading → Reading
told_drops_decision r = record r {
  heuristic_kept = false;
  heuristic_forced = false;
  learnt_commit_kept = true;
  learnt_commit_forced = true;
  sent_ack = true;
}

-- The root commits on the votes that have come.
abbrev pub commits_on_votes_so_far : Reading → Reading
commits_on_votes_so_far r = decides_naming r

-- The root waits for votes.
pub record Waiting (r : Reading) : Type 0 where
  pub root : r.parent_is_root ≡ true
  pub waiting : r.phase ≡ Collecting

-- The child is up.
pub record IsUp (r : Reading) : Type 0 where
  pub up : r.child_failed ≡ false

-- Each wrong move breaks the invariant at a reading that a run reaches.
pub record WrongMoves : Type 0 where
  pub forgets_after_first_ack_breaks : Breaks PresumedAbort IsCommitting forgets_after_first_ack
      StagesAbort.flat_commit_decided
  pub prepare_before_collecting_breaks : Breaks PresumedCommit MayAskForVotes prepare_before_collecting
      StagesCommit.flat_commit_accepted
  pub boot_reused_breaks : Breaks PresumedAbort IsUp boot_reused StagesAbort.flat_commit_voted
  pub reads_over_a_yes_breaks : Breaks PresumedAbort MayPromise reads_over_a_yes
      StagesAbort.cascaded_commit_heard
  pub obeys_contradicting_commit_breaks : Breaks PresumedCommit HasAborted obeys_contradicting_commit
      StagesCommit.cascaded_abort_passed
  pub trim_drops_commit_breaks : Breaks PresumedCommit IsUnknownUnderCommit trim_drops_commit
      StagesCommit.flat_commit_decided
  pub told_drops_decision_breaks : Breaks PresumedAbort MayLearnCommit told_drops_decision
      StagesAbort.operator_decided
  pub commits_on_votes_so_far_breaks : Breaks PresumedAbort Waiting commits_on_votes_so_far
      StagesAbort.flat_commit_asked
