-- Each fault and restart of a parent keeps the invariant, under Presumed Abort.
use Rattle.std.proofs.Common.{refl, arith}
use Rattle.proof_pairs.specs.Invariant.{PresumedAbort}
use Rattle.proof_pairs.specs.Keeps.{KeepsInvariant}
use Rattle.proof_pairs.proofs.Later.{later-later}
use Rattle.proof_pairs.specs.ParentCrash
use Rattle.proof_pairs.specs.ParentCrash.{ParentFront}
use Rattle.proof_pairs.specs.ParentMoves
use Rattle.proof_pairs.specs.RootMoves
use Rattle.proof_pairs.specs.CascadedMoves

pub parent_fails : KeepsInvariant PresumedAbort ParentCrash.MayFailParent ParentCrash.parent_fails
parent_fails r h g = grind arith

pub fails_to_hear_no : KeepsInvariant PresumedAbort ParentMoves.MayHearNo ParentCrash.fails_to_hear_no
fails_to_hear_no r h g = grind arith

pub fails_at_no : KeepsInvariant PresumedAbort ParentMoves.MayHearNo ParentCrash.fails_at_no
fails_at_no r h g = grind arith

pub fails_to_promise_up : KeepsInvariant PresumedAbort CascadedMoves.MayPromise
    ParentCrash.fails_to_promise_up
fails_to_promise_up r h g = grind arith

pub hardens_failed_parent : (front : ParentFront)
    → KeepsInvariant PresumedAbort (ParentCrash.MayHardenFailedParent front)
    (ParentCrash.hardens_failed_parent front)
hardens_failed_parent front r h g = record {
  invariant = record {
    common = grind arith;
    never_collects = grind arith;
    commit_is_forced = grind arith;
    learnt_commit_is_forced = grind arith;
    abort_is_refused = grind arith;
    commit_means_commit = grind arith;
    commit_owes = grind arith;
    owed_stands = grind arith;
    end_stands_behind_commit = grind arith;
    ended_is_settled = grind arith;
    forgotten = grind arith;
  };
  later = grind arith;
}

pub parent_loses : (front : ParentFront) → KeepsInvariant PresumedAbort (ParentCrash.IsParentFront front)
    (ParentCrash.parent_loses front)
parent_loses front r h g = record {
  invariant = record {
    common = record {
      unborn = grind arith;
      undecided = grind arith;
      not_asked = grind arith;
      accepted_took_part = grind arith;
      acceptance_is_of_an_issued_ticket = grind arith;
      asked_takes_part = grind arith;
      root_takes_part = grind arith;
      root_promises_nobody = grind arith;
      yes_was_sent = grind arith;
      read_was_sent = grind arith;
      no_was_sent = grind arith;
      ack_was_sent = grind arith;
      forced_collecting = grind arith;
      forced_promise = grind arith;
      promise_is_forced = grind arith;
      promise_is_once = grind arith;
      promise_takes_part = grind arith;
      promise_or_read = grind arith;
      forced_commit = grind arith;
      commit_decided = grind arith;
      root_commit_is_the_outcome = grind arith;
      root_commit_is_once = grind arith;
      root_commit_is_forced = grind arith;
      cascaded_commit_obeys = grind arith;
      owed_took_part = grind arith;
      told_commit_is_the_outcome = grind arith;
      told_abort_is_refused = grind arith;
      commit_has_votes = grind arith;
      promise_has_votes = grind arith;
      names_has_yes = grind arith;
      old_promise_has_votes = grind arith;
      read_has_reads = grind arith;
      outcome_has_votes = grind arith;
      participant_consented = grind arith;
      promise_broken_by_parent = grind arith;
      kept_promise_broken_by_parent = grind arith;
      unissued = grind arith;
      not_voted = grind arith;
      child_forced_promise = grind arith;
      child_promise_is_forced = grind arith;
      child_promise_is_once = grind arith;
      promise_was_asked = grind arith;
      learnt_commit_stands_behind = grind arith;
      learnt_abort_stands_behind = grind arith;
      forced_learnt_commit = grind arith;
      forced_learnt_abort = grind arith;
      child_commit_is_the_outcome = grind arith;
      heuristic_stands_behind = grind arith;
      forced_heuristic = grind arith;
      heuristic_is_forced = grind arith;
      heuristic_stays = grind arith;
      forgot_stays = grind arith;
      forgot_stands_behind = grind arith;
      forced_forgot = grind arith;
      forgot_is_once = grind arith;
      forgot_was_decided = grind arith;
      forgot_is_forced = grind arith;
      yes_means = grind arith;
      inquire_means = grind arith;
      read_means = grind arith;
      no_means = grind arith;
      commit_means = grind arith;
      abort_means = grind arith;
      ack_means = grind arith;
    };
    never_collects = grind arith;
    commit_is_forced = grind arith;
    learnt_commit_is_forced = grind arith;
    abort_is_refused = grind arith;
    commit_means_commit = grind arith;
    commit_owes = grind arith;
    owed_stands = grind arith;
    end_stands_behind_commit = grind arith;
    ended_is_settled = grind arith;
    forgotten = grind arith;
  };
  later = grind arith;
}

pub fails_to_end : KeepsInvariant PresumedAbort ParentMoves.MayEndCommit ParentCrash.fails_to_end
fails_to_end r h g = grind arith

pub fails_to_abort : KeepsInvariant PresumedAbort ParentMoves.MayAbort ParentCrash.fails_to_abort
fails_to_abort r h g = grind arith

pub fails_to_decide : KeepsInvariant PresumedAbort RootMoves.MayDecide ParentCrash.fails_to_decide_naming
fails_to_decide r h g = grind arith

pub fails_to_pass_commit : KeepsInvariant PresumedAbort CascadedMoves.MayPassCommit
    ParentCrash.fails_to_pass_commit_naming
fails_to_pass_commit r h g = grind arith

pub fails_to_pass_abort : KeepsInvariant PresumedAbort CascadedMoves.MayPassAbort
    ParentCrash.fails_to_pass_abort
fails_to_pass_abort r h g = grind arith

pub parent_reopens : KeepsInvariant PresumedAbort ParentCrash.MayReopenParent
    ParentCrash.parent_reopens_naming
parent_reopens r h g = record {
  invariant = record {
    common = grind arith;
    never_collects = grind arith;
    commit_is_forced = grind arith;
    learnt_commit_is_forced = grind arith;
    abort_is_refused = grind arith;
    commit_means_commit = grind arith;
    commit_owes = grind arith;
    owed_stands = grind arith;
    end_stands_behind_commit = grind arith;
    ended_is_settled = grind arith;
    forgotten = grind arith;
  };
  later = grind arith;
}

pub parent_restarts : (front : ParentFront)
    → KeepsInvariant PresumedAbort (ParentCrash.IsParentFront front)
    (ParentCrash.parent_restarts_naming front)
parent_restarts front r h g =
    let lost = parent_loses front r h g in
    let back = parent_reopens (ParentCrash.parent_loses front r) lost.invariant (record { failed = refl }) in
    record { invariant = back.invariant; later = later-later _ _ _ lost.later back.later }
