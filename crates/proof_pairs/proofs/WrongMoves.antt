-- Each wrong move breaks the invariant, and where.
use Rattle.std.proofs.Common.{arith}
use Rattle.proof_pairs.specs.Standing.{IsCommitting, IsUnknownUnderCommit}
use Rattle.proof_pairs.specs.Invariant.{PresumedAbort, PresumedCommit}
use Rattle.proof_pairs.specs.CascadedMoves.{MayPromise}
use Rattle.proof_pairs.specs.ParentMoves.{MayAskForVotes}
use Rattle.proof_pairs.specs.ChildMoves.{MayLearnCommit}
use Rattle.proof_pairs.specs.WrongMoves as wrong
use Rattle.proof_pairs.specs.WrongMoves.{WrongMoves, HasAborted, Waiting, IsUp}
use Rattle.proof_pairs.specs.StagesAbort
use Rattle.proof_pairs.specs.StagesCommit
use Rattle.proof_pairs.proofs.StagesAbort as abort_stage
use Rattle.proof_pairs.proofs.StagesCommit as commit_stage

forgets_after_first_ack_breaks_guard : IsCommitting StagesAbort.flat_commit_decided
forgets_after_first_ack_breaks_guard = grind arith

forgets_after_first_ack_breaks_falls : PresumedAbort
    (wrong.forgets_after_first_ack StagesAbort.flat_commit_decided) → ⊥
forgets_after_first_ack_breaks_falls h = grind arith

pub forgets_after_first_ack_breaks : wrong.Breaks PresumedAbort IsCommitting wrong.forgets_after_first_ack
    StagesAbort.flat_commit_decided
forgets_after_first_ack_breaks = (
  abort_stage.lem_flat_commit_decided.3,
  forgets_after_first_ack_breaks_guard,
  forgets_after_first_ack_breaks_falls,
)

prepare_before_collecting_breaks_guard : MayAskForVotes StagesCommit.flat_commit_accepted
prepare_before_collecting_breaks_guard = grind arith

prepare_before_collecting_breaks_falls : PresumedCommit
    (wrong.prepare_before_collecting StagesCommit.flat_commit_accepted) → ⊥
prepare_before_collecting_breaks_falls h = grind arith

pub prepare_before_collecting_breaks : wrong.Breaks PresumedCommit MayAskForVotes
    wrong.prepare_before_collecting StagesCommit.flat_commit_accepted
prepare_before_collecting_breaks = (
  commit_stage.lem_flat_commit_accepted.3,
  prepare_before_collecting_breaks_guard,
  prepare_before_collecting_breaks_falls,
)

boot_reused_breaks_guard : IsUp StagesAbort.flat_commit_voted
boot_reused_breaks_guard = grind arith

boot_reused_breaks_falls : PresumedAbort (wrong.boot_reused StagesAbort.flat_commit_voted) → ⊥
boot_reused_breaks_falls h = grind arith

pub boot_reused_breaks : wrong.Breaks PresumedAbort IsUp wrong.boot_reused StagesAbort.flat_commit_voted
boot_reused_breaks =
    (abort_stage.lem_flat_commit_voted.3, boot_reused_breaks_guard, boot_reused_breaks_falls)

reads_over_a_yes_breaks_guard : MayPromise StagesAbort.cascaded_commit_heard
reads_over_a_yes_breaks_guard = grind arith

reads_over_a_yes_breaks_falls : PresumedAbort (wrong.reads_over_a_yes StagesAbort.cascaded_commit_heard) → ⊥
reads_over_a_yes_breaks_falls h = grind arith

pub reads_over_a_yes_breaks : wrong.Breaks PresumedAbort MayPromise wrong.reads_over_a_yes
    StagesAbort.cascaded_commit_heard
reads_over_a_yes_breaks =
    (abort_stage.lem_cascaded_commit_heard.3, reads_over_a_yes_breaks_guard, reads_over_a_yes_breaks_falls)

obeys_contradicting_commit_breaks_guard : HasAborted StagesCommit.cascaded_abort_passed
obeys_contradicting_commit_breaks_guard = grind arith

obeys_contradicting_commit_breaks_falls : PresumedCommit
    (wrong.obeys_contradicting_commit StagesCommit.cascaded_abort_passed) → ⊥
obeys_contradicting_commit_breaks_falls h = grind arith

pub obeys_contradicting_commit_breaks : wrong.Breaks PresumedCommit HasAborted
    wrong.obeys_contradicting_commit StagesCommit.cascaded_abort_passed
obeys_contradicting_commit_breaks = (
  commit_stage.lem_cascaded_abort_passed.3,
  obeys_contradicting_commit_breaks_guard,
  obeys_contradicting_commit_breaks_falls,
)

trim_drops_commit_breaks_guard : IsUnknownUnderCommit StagesCommit.flat_commit_decided
trim_drops_commit_breaks_guard = grind arith

trim_drops_commit_breaks_falls : PresumedCommit (wrong.trim_drops_commit StagesCommit.flat_commit_decided)
    → ⊥
trim_drops_commit_breaks_falls h = grind arith

pub trim_drops_commit_breaks : wrong.Breaks PresumedCommit IsUnknownUnderCommit wrong.trim_drops_commit
    StagesCommit.flat_commit_decided
trim_drops_commit_breaks =
    (commit_stage.lem_flat_commit_decided.3, trim_drops_commit_breaks_guard, trim_drops_commit_breaks_falls)

told_drops_decision_breaks_guard : MayLearnCommit StagesAbort.operator_decided
told_drops_decision_breaks_guard = grind arith

told_drops_decision_breaks_falls : PresumedAbort (wrong.told_drops_decision StagesAbort.operator_decided)
    → ⊥
told_drops_decision_breaks_falls h = grind arith

pub told_drops_decision_breaks : wrong.Breaks PresumedAbort MayLearnCommit wrong.told_drops_decision
    StagesAbort.operator_decided
told_drops_decision_breaks =
    (abort_stage.lem_operator_decided.3, told_drops_decision_breaks_guard, told_drops_decision_breaks_falls)

commits_on_votes_so_far_breaks_guard : Waiting StagesAbort.flat_commit_asked
commits_on_votes_so_far_breaks_guard = grind arith

commits_on_votes_so_far_breaks_falls : PresumedAbort
    (wrong.commits_on_votes_so_far StagesAbort.flat_commit_asked) → ⊥
commits_on_votes_so_far_breaks_falls h = grind arith

pub commits_on_votes_so_far_breaks : wrong.Breaks PresumedAbort Waiting wrong.commits_on_votes_so_far
    StagesAbort.flat_commit_asked
commits_on_votes_so_far_breaks = (
  abort_stage.lem_flat_commit_asked.3,
  commits_on_votes_so_far_breaks_guard,
  commits_on_votes_so_far_breaks_falls,
)

pub wrong_moves : WrongMoves
wrong_moves = record {
  forgets_after_first_ack_breaks = forgets_after_first_ack_breaks;
  prepare_before_collecting_breaks = prepare_before_collecting_breaks;
  boot_reused_breaks = boot_reused_breaks;
  reads_over_a_yes_breaks = reads_over_a_yes_breaks;
  obeys_contradicting_commit_breaks = obeys_contradicting_commit_breaks;
  trim_drops_commit_breaks = trim_drops_commit_breaks;
  told_drops_decision_breaks = told_drops_decision_breaks;
  commits_on_votes_so_far_breaks = commits_on_votes_so_far_breaks;
}
