-- What a device's fault and a restart do at the child.
use Rattle.std.specs.Prelude.{◌≡◌, Bool, true, false, not, ◌||◌, ◌&&◌, ◌⊎◌}
use Rattle.proof_pairs.specs.Reading.{Reading}
use Rattle.proof_pairs.specs.Standing.{IsInDoubt, IsHeuristic}

-- Which of the child's records of the ticket a front of its log holds.
pub record ChildFront : Type 0 where
  pub prepared : Bool
  pub learnt_commit : Bool
  pub learnt_abort : Bool
  pub heuristic : Bool
  -- An operator's decision that is left, or was ever forced, was to commit.
  pub heuristic_commits : Bool
  pub forgot : Bool

-- A front of the kept list that holds the forced front: nothing of it was lost, nothing is new, and no record
-- is after a lost one.
pub record IsChildFront (front : ChildFront) (r : Reading) : Type 0 where
  pub holds_prepared : r.prepared_forced ≡ true → front.prepared ≡ true
  pub holds_learnt_commit : r.learnt_commit_forced ≡ true → front.learnt_commit ≡ true
  pub holds_learnt_abort : r.learnt_abort_forced ≡ true → front.learnt_abort ≡ true
  pub holds_heuristic : r.heuristic_forced ≡ true → front.heuristic ≡ true
  pub holds_forgot : r.forgot_forced ≡ true → front.forgot ≡ true
  pub had_prepared : front.prepared ≡ true → r.prepared_kept ≡ true
  pub had_learnt_commit : front.learnt_commit ≡ true → r.learnt_commit_kept ≡ true
  pub had_learnt_abort : front.learnt_abort ≡ true → r.learnt_abort_kept ≡ true
  pub had_heuristic : front.heuristic ≡ true → r.heuristic_kept ≡ true
  pub had_forgot : front.forgot ≡ true → r.forgot_kept ≡ true
  pub heuristic_behind_prepared : front.heuristic ≡ true → front.prepared ≡ true
  pub commit_behind_prepared : front.learnt_commit ≡ true → front.prepared ≡ true
  pub abort_behind_prepared : front.learnt_abort ≡ true → front.prepared ≡ true
  pub commit_behind_heuristic : front.learnt_commit ≡ true → r.heuristic_kept ≡ true
      → front.heuristic ≡ true
  pub abort_behind_heuristic : front.learnt_abort ≡ true → r.heuristic_kept ≡ true → front.heuristic ≡ true
  pub forgot_behind_heuristic : front.forgot ≡ true → front.heuristic ≡ true
  pub same_decision : (front.heuristic ≡ true) ⊎ (r.heuristic_ever ≡ true)
      → front.heuristic_commits ≡ r.heuristic_commits

-- A device failed in an event that wrote nothing of the ticket, or the process went down.
pub record MayFailChild (r : Reading) : Type 0 where
  pub up : r.child_failed ≡ false

-- the device failed and nothing of the case was appended: an open branch is lost
abbrev pub child_fails : Reading → Reading
child_fails r = record r {
  child_failed = true;
  ticket_open = false;
  child_refused = r.ticket_open || r.child_refused;
}

-- It failed after the promise, which was written and perhaps not forced; nothing was sent.
pub record MayFailToPromise (r : Reading) : Type 0 where
  pub asked : r.sent_prepare ≡ true
  pub is_open : r.ticket_open ≡ true

-- the device failed after Prepared or Prepare: the promise is appended, and no YES goes out
abbrev pub fails_to_promise : Reading → Reading
fails_to_promise r = record r { child_failed = true; ticket_open = false; prepared_kept = true }

-- It failed after the record of the outcome.
pub record MayFailToLearnCommit (r : Reading) : Type 0 where
  pub up : r.child_failed ≡ false
  pub told : r.sent_commit ≡ true
  pub in_doubt : IsInDoubt r

-- the device failed after the record of the commit
abbrev pub fails_to_commit : Reading → Reading
fails_to_commit r = record r {
  child_failed = true;
  learnt_commit_kept = true;
  child_committed = not r.heuristic_kept || r.child_committed;
}

-- ABORT came to a branch in doubt as the device failed
pub record MayFailToLearnAbort (r : Reading) : Type 0 where
  pub up : r.child_failed ≡ false
  pub told : r.sent_abort ≡ true
  pub in_doubt : IsInDoubt r

-- the device failed after the record of the abort
abbrev pub fails_to_roll_back : Reading → Reading
fails_to_roll_back r = record r { child_failed = true; child_refused = true; learnt_abort_kept = true }

-- It failed after an operator's decision, or after the operator's Forgot.
pub record MayFailToDecideAlone (r : Reading) : Type 0 where
  pub manager : r.child_is_manager ≡ true
  pub up : r.child_failed ≡ false
  pub in_doubt : IsInDoubt r
  pub undecided : r.heuristic_kept ≡ false

-- the device failed after the operator's decision
abbrev pub fails_to_decide_alone : Bool → Reading → Reading
fails_to_decide_alone commit r = record r {
  child_failed = true;
  heuristic_kept = true;
  heuristic_commits = commit;
}

-- the operator forgets a decided branch as the device fails
pub record MayFailToForget (r : Reading) : Type 0 where
  pub manager : r.child_is_manager ≡ true
  pub up : r.child_failed ≡ false
  pub heuristic : IsHeuristic r

-- the device failed after Forgot
abbrev pub fails_to_forget : Reading → Reading
fails_to_forget r = record r { child_failed = true; forgot_kept = true }

-- In the failing event the forced front moved on, to anywhere before the end.
pub record MayHardenFailedChild (front : ChildFront) (r : Reading) : Type 0 where
  pub failed : r.child_failed ≡ true
  pub front_of : IsChildFront front r

-- of the records of a failed child, those in this front are forced
abbrev pub hardens_failed_child : ChildFront → Reading → Reading
hardens_failed_child front r = record r {
  prepared_forced = front.prepared;
  prepared_ever = front.prepared || r.prepared_ever;
  learnt_commit_forced = front.learnt_commit;
  learnt_abort_forced = front.learnt_abort;
  heuristic_forced = front.heuristic;
  heuristic_ever = front.heuristic || r.heuristic_ever;
  forgot_forced = front.forgot;
  forgot_ever = front.forgot || r.forgot_ever;
}

-- The first half of a restart: memory is gone, and the log is cut to a front that holds the forced one.
abbrev pub child_loses : ChildFront → Reading → Reading
child_loses front r = record r {
  child_failed = true;
  ticket_open = false;
  child_refused = r.ticket_open || (r.prepared_kept && not front.prepared) || r.child_refused;
  prepared_kept = front.prepared;
  learnt_commit_kept = front.learnt_commit;
  learnt_abort_kept = front.learnt_abort;
  heuristic_kept = front.heuristic;
  heuristic_commits = front.heuristic_commits;
  forgot_kept = front.forgot;
}

-- The second half: all that is left is forced with the new boot, and a ticket in doubt asks.
pub record MayReopenChild (r : Reading) : Type 0 where
  pub failed : r.child_failed ≡ true

-- the child is up again: what its log holds is forced, and a promise without an outcome asks
abbrev pub child_reopens : Reading → Reading
child_reopens r = record r {
  child_failed = false;
  ticket_open = false;
  prepared_forced = r.prepared_kept;
  prepared_ever = r.prepared_kept || r.prepared_ever;
  learnt_commit_forced = r.learnt_commit_kept;
  learnt_abort_forced = r.learnt_abort_kept;
  heuristic_forced = r.heuristic_kept;
  heuristic_ever = r.heuristic_kept || r.heuristic_ever;
  forgot_forced = r.forgot_kept;
  forgot_ever = r.forgot_kept || r.forgot_ever;
  sent_inquire =
      (r.prepared_kept && not r.learnt_commit_kept && not r.learnt_abort_kept && not r.forgot_kept) ||
      r.sent_inquire;
}

-- A whole restart.
abbrev pub child_restarts : ChildFront → Reading → Reading
child_restarts front r = child_reopens (child_loses front r)
