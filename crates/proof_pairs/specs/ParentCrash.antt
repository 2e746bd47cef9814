-- What a device's fault and a restart do at the parent.
use Rattle.std.specs.Prelude.{◌≡◌, Bool, true, false, not, ◌||◌, ◌&&◌}
use Rattle.proof_pairs.specs.Reading.{Reading, Active, Collecting, Closed, is_live}
use Rattle.proof_pairs.specs.ParentMoves.{is_told_to_abort}

-- Which of the parent's records of the case a front of its log holds.
pub record ParentFront : Type 0 where
  pub collecting : Bool
  pub own_prepare : Bool
  pub commit : Bool
  pub abort : Bool
  pub end : Bool

-- A front of the kept list that holds the forced front: nothing of it was lost, nothing is new, and no record
-- is after a lost one. (A forced Abort or End may be lost here too: nothing rests on them.)
pub record IsParentFront (front : ParentFront) (r : Reading) : Type 0 where
  pub holds_collecting : r.collecting_forced ≡ true → front.collecting ≡ true
  pub holds_own_prepare : r.own_prepare_forced ≡ true → front.own_prepare ≡ true
  pub holds_commit : r.commit_forced ≡ true → front.commit ≡ true
  pub had_collecting : front.collecting ≡ true → r.collecting_kept ≡ true
  pub had_own_prepare : front.own_prepare ≡ true → r.own_prepare_kept ≡ true
  pub had_commit : front.commit ≡ true → r.commit_kept ≡ true
  pub had_abort : front.abort ≡ true → r.abort_kept ≡ true
  pub had_end : front.end ≡ true → r.end_kept ≡ true
  pub promise_behind_collecting : front.own_prepare ≡ true → r.collecting_kept ≡ true
      → front.collecting ≡ true
  pub commit_behind_collecting : front.commit ≡ true → r.collecting_kept ≡ true → front.collecting ≡ true
  pub commit_behind_promise : front.commit ≡ true → r.own_prepare_kept ≡ true → front.own_prepare ≡ true
  pub abort_behind_collecting : front.abort ≡ true → r.collecting_kept ≡ true → front.collecting ≡ true
  pub abort_behind_promise : front.abort ≡ true → r.own_prepare_kept ≡ true → front.own_prepare ≡ true
  pub end_behind_collecting : front.end ≡ true → r.collecting_kept ≡ true → front.collecting ≡ true
  pub end_behind_commit : front.end ≡ true → r.commit_kept ≡ true → front.commit ≡ true
  pub end_behind_abort : front.end ≡ true → r.abort_kept ≡ true → front.abort ≡ true

-- A device failed in an event that wrote nothing of the case, or the process went down.
pub record MayFailParent (r : Reading) : Type 0 where
  pub up : r.failed ≡ false

-- the device failed and nothing of the case was appended: a live case is lost
abbrev pub parent_fails : Reading → Reading
parent_fails r = record r { failed = true; phase = Closed; refused = is_live r.phase || r.refused }

-- Presumed Commit: it failed after Collecting; no PREPARE went out.
pub record MayFailToCollect (r : Reading) : Type 0 where
  pub active : r.phase ≡ Active

-- the device failed after Collecting: no PREPARE goes out
abbrev pub fails_to_collect : Reading → Reading
fails_to_collect r = record r {
  failed = true;
  phase = Closed;
  refused = true;
  collecting_kept = true;
  collects = r.accepted;
}

-- It failed after the Abort of a case that waits for votes.
abbrev pub fails_to_abort : Reading → Reading
fails_to_abort r = record r { failed = true; phase = Closed; refused = true; abort_kept = true }

-- Presumed Commit: the Abort names whom ABORT would have gone to.
abbrev pub fails_to_abort_naming : Reading → Reading
fails_to_abort_naming r = record r {
  failed = true;
  phase = Closed;
  refused = true;
  abort_kept = true;
  owed = is_told_to_abort r;
}

-- the device failed after the Abort for the first NO
abbrev pub fails_to_hear_no : Reading → Reading
fails_to_hear_no r = record r {
  failed = true;
  phase = Closed;
  first_no = true;
  refused = true;
  abort_kept = true;
}

-- It failed at the ticket's NO, before a record of it: the vote was counted.
abbrev pub fails_at_no : Reading → Reading
fails_at_no r = record r { failed = true; phase = Closed; first_no = true; refused = true }

-- Presumed Commit: it failed after the End of a case whose children all voted READ; nothing was told or
-- sent.
pub record MayFailToEndReadOnly (r : Reading) : Type 0 where
  pub waiting : r.phase ≡ Collecting
  pub all_read : r.accepted ≡ true → r.first_read ≡ true

-- the device failed after the End of a read-only case
abbrev pub fails_to_end_read_only : Reading → Reading
fails_to_end_read_only r = record r { failed = true; phase = Closed; refused = true; end_kept = true }

-- It failed after the root's Commit; nothing was sent or told, and the Commit may be lost.
abbrev pub fails_to_decide_naming : Reading → Reading
fails_to_decide_naming r = record r {
  failed = true;
  phase = Closed;
  commit_kept = true;
  owed = r.accepted && r.first_yes;
}

-- the device failed after the root's Commit: nothing is told
abbrev pub fails_to_decide : Reading → Reading
fails_to_decide r = record r { failed = true; phase = Closed; commit_kept = true }

-- It failed after a cascaded case's Prepare; no YES was sent.
abbrev pub fails_to_promise_up : Reading → Reading
fails_to_promise_up r = record r {
  failed = true;
  phase = Closed;
  own_prepare_kept = true;
  names = r.accepted && r.first_yes;
}

-- It failed after a cascaded case's Commit or Abort.
abbrev pub fails_to_pass_commit_naming : Reading → Reading
fails_to_pass_commit_naming r = record r { failed = true; commit_kept = true; owed = r.names }

-- the device failed after the Commit of a promised case
abbrev pub fails_to_pass_commit : Reading → Reading
fails_to_pass_commit r = record r { failed = true; commit_kept = true }

-- the device failed after the Abort of a promised case, which names nobody
abbrev pub fails_to_pass_abort : Reading → Reading
fails_to_pass_abort r = record r { failed = true; refused = true; abort_kept = true }

-- the device failed after the Abort of a promised case, which names those that it promised for
abbrev pub fails_to_pass_abort_naming : Reading → Reading
fails_to_pass_abort_naming r = record r { failed = true; refused = true; abort_kept = true; owed = r.names }

-- It failed after the End.
abbrev pub fails_to_end : Reading → Reading
fails_to_end r = record r { failed = true; end_kept = true }

-- In the failing event the forced front moved on, to anywhere before the end.
pub record MayHardenFailedParent (front : ParentFront) (r : Reading) : Type 0 where
  pub failed : r.failed ≡ true
  pub front_of : IsParentFront front r

-- of the records of a failed parent, those in this front are forced
abbrev pub hardens_failed_parent : ParentFront → Reading → Reading
hardens_failed_parent front r = record r {
  collecting_forced = front.collecting;
  own_prepare_forced = front.own_prepare;
  own_prepare_ever = front.own_prepare || r.own_prepare_ever;
  commit_forced = front.commit;
  outcome = (r.parent_is_root && front.commit) || r.outcome;
}

-- The first half of a restart: memory is gone, and the log is cut to a front that holds the forced one. The
-- case is refused if it could still be decided, or if its Commit (the root's) or its Prepare was lost.
abbrev pub parent_loses : ParentFront → Reading → Reading
parent_loses front r = record r {
  failed = true;
  phase = Closed;
  accepted = false;
  acked = false;
  refused = is_live r.phase || (r.parent_is_root && r.commit_kept && not front.commit) ||
      (r.own_prepare_kept && not front.own_prepare) || r.refused;
  collecting_kept = front.collecting;
  own_prepare_kept = front.own_prepare;
  commit_kept = front.commit;
  abort_kept = front.abort;
  end_kept = front.end;
  collects = front.collecting && r.collects;
  names = front.own_prepare && r.names;
  owed = (front.commit || front.abort) && r.owed;
}

-- Presumed Commit: a Collecting with nothing after it is undecided. The restart writes its Abort, naming all
-- that it names; if that fails too, the Abort stands unforced.
abbrev pub is_undecided : Reading → Bool
is_undecided r = r.collecting_kept && not r.own_prepare_kept && not r.commit_kept && not r.abort_kept &&
    not r.end_kept

-- a failed parent restarts and finds the case undecided
pub record MayAbortAtRestart (r : Reading) : Type 0 where
  pub failed : r.failed ≡ true
  pub undecided : is_undecided r ≡ true

-- the device failed again after the Abort that the restart appended
abbrev pub fails_to_abort_at_restart : Reading → Reading
fails_to_abort_at_restart r = record r { abort_kept = true; owed = r.collects }

-- The second half: all that is left is forced with the new boot. Presumed Abort: a decided case sends COMMIT
-- to all that it owes it.
pub record MayReopenParent (r : Reading) : Type 0 where
  pub failed : r.failed ≡ true

-- the parent is up again and has appended the Abort of a collection that nothing followed
abbrev pub parent_reopens_naming : Reading → Reading
parent_reopens_naming r = record r {
  failed = false;
  own_prepare_forced = r.own_prepare_kept;
  own_prepare_ever = r.own_prepare_kept || r.own_prepare_ever;
  commit_forced = r.commit_kept;
  outcome = (r.parent_is_root && r.commit_kept) || r.outcome;
  sent_commit = (r.commit_kept && not r.end_kept && r.owed) || r.sent_commit;
}

-- Presumed Commit: an undecided case aborts, and an aborted one sends ABORT to all that it owes it.
abbrev pub parent_reopens : Reading → Reading
parent_reopens r = record r {
  failed = false;
  collecting_forced = r.collecting_kept;
  own_prepare_forced = r.own_prepare_kept;
  own_prepare_ever = r.own_prepare_kept || r.own_prepare_ever;
  commit_forced = r.commit_kept;
  outcome = (r.parent_is_root && r.commit_kept) || r.outcome;
  abort_kept = is_undecided r || r.abort_kept;
  owed = (is_undecided r && r.collects) || r.owed;
  sent_abort = (is_undecided r && r.collects) || (r.abort_kept && not r.end_kept && r.owed) ||
      r.sent_abort;
}

-- A whole restart, under Presumed Abort and under Presumed Commit.
abbrev pub parent_restarts_naming : ParentFront → Reading → Reading
parent_restarts_naming front r = parent_reopens_naming (parent_loses front r)

-- a restart: what is not in this front is lost, and then the parent is up again
abbrev pub parent_restarts : ParentFront → Reading → Reading
parent_restarts front r = parent_reopens (parent_loses front r)
