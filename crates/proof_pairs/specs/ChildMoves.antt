-- What a child does with its ticket: a manager's rows, and a cascaded coordinator's rows as a child.
use Rattle.std.specs.Prelude.{◌≡◌, Bool, true, false, not, ◌||◌, ◌⊎◌}
use Rattle.proof_pairs.specs.Reading.{Reading}
use Rattle.proof_pairs.specs.Standing.{IsInDoubt, IsForgotten, IsHeuristic, IsSettled}

-- JOIN found no open ticket: a fresh number is issued, and JOINED tells of it.
pub record MayIssue (r : Reading) : Type 0 where
  pub fresh : r.issued ≡ false
  pub up : r.child_failed ≡ false

-- JOINED tells the parent's case of a fresh ticket
abbrev pub issues : Reading → Reading
issues r = record r { issued = true; ticket_open = true }

-- PREPARE is there and the ticket is open: the child may vote.
pub record MayVote (r : Reading) : Type 0 where
  pub asked : r.sent_prepare ≡ true
  pub is_open : r.ticket_open ≡ true

-- The promise is forced, then YES goes up.
abbrev pub votes_yes : Reading → Reading
votes_yes r = record r {
  ticket_open = false;
  prepared_kept = true;
  prepared_forced = true;
  prepared_ever = true;
  sent_yes = true;
}

-- the child says NO, and drops the branch
abbrev pub votes_no : Reading → Reading
votes_no r = record r { ticket_open = false; child_refused = true; sent_no = true }

-- the child says READ, and drops the branch
abbrev pub votes_read : Reading → Reading
votes_read r = record r { ticket_open = false; sent_read = true }

-- The open ticket ends without a vote: ABORT came, or a coordinator's own abort act.
pub record MayDrop (r : Reading) : Type 0 where
  pub is_open : r.ticket_open ≡ true

-- ABORT ends a branch that promised nothing
abbrev pub drops : Reading → Reading
drops r = record r { ticket_open = false; child_refused = true }

-- Under Presumed Commit, ABORT at an open ticket is acknowledged.
pub record MayDropAndAcknowledge (r : Reading) : Type 0 where
  pub is_open : r.ticket_open ≡ true
  pub aborted : r.sent_abort ≡ true

-- ABORT ends a branch that promised nothing, and is acknowledged
abbrev pub drops_and_acknowledges : Reading → Reading
drops_and_acknowledges r = record r { ticket_open = false; child_refused = true; sent_ack = true }

-- PREPARE came again to a promise: Prepared, or an operator's decision that stands.
pub record MayRepeatYes (r : Reading) : Type 0 where
  pub asked : r.sent_prepare ≡ true
  pub up : r.child_failed ≡ false
  pub promised : r.prepared_kept ≡ true

-- PREPARE came again to a promise: YES goes out again
abbrev pub repeats_yes : Reading → Reading
repeats_yes r = record r { sent_yes = true }

-- PREPARE came to a ticket that is not known, or whose abort still goes on below.
pub record MayRefuse (r : Reading) : Type 0 where
  pub asked : r.sent_prepare ≡ true
  pub up : r.child_failed ≡ false
  pub forgotten : IsForgotten r

-- PREPARE came to a ticket that is not live: NO goes out
abbrev pub refuses : Reading → Reading
refuses r = record r { sent_no = true }

-- COMMIT found the ticket in doubt.
pub record MayLearnCommit (r : Reading) : Type 0 where
  pub up : r.child_failed ≡ false
  pub told : r.sent_commit ≡ true
  pub in_doubt : IsInDoubt r

-- Presumed Abort: Committed, Commit or Told is forced, then ACK goes up.
abbrev pub commits_forced : Reading → Reading
commits_forced r = record r {
  learnt_commit_kept = true;
  learnt_commit_forced = true;
  child_committed = not r.heuristic_kept || r.child_committed;
  sent_ack = true;
}

-- Presumed Commit: the same record unforced, and no ACK.
abbrev pub commits : Reading → Reading
commits r = record r {
  learnt_commit_kept = true;
  child_committed = not r.heuristic_kept || r.child_committed;
}

-- ABORT found the ticket in doubt.
pub record MayLearnAbort (r : Reading) : Type 0 where
  pub up : r.child_failed ≡ false
  pub told : r.sent_abort ≡ true
  pub in_doubt : IsInDoubt r

-- Presumed Abort: RolledBack, Abort or Told unforced, and no ACK.
abbrev pub rolls_back : Reading → Reading
rolls_back r = record r { child_refused = true; learnt_abort_kept = true }

-- Presumed Commit: the same record is forced, then ACK goes up.
abbrev pub rolls_back_forced : Reading → Reading
rolls_back_forced r = record r {
  child_refused = true;
  learnt_abort_kept = true;
  learnt_abort_forced = true;
  sent_ack = true;
}

-- Presumed Abort: COMMIT came again, to a ticket that is not known or that learnt the commit.
pub record MayAcknowledgeCommit (r : Reading) : Type 0 where
  pub up : r.child_failed ≡ false
  pub told : r.sent_commit ≡ true
  pub known : IsForgotten r ⊎ (r.learnt_commit_kept ≡ true)

-- Presumed Commit: ABORT came again, to a ticket that is not known or that learnt the abort.
pub record MayAcknowledgeAbort (r : Reading) : Type 0 where
  pub up : r.child_failed ≡ false
  pub told : r.sent_abort ≡ true
  pub known : IsForgotten r ⊎ (r.learnt_abort_kept ≡ true)

-- an outcome that is owed an ACK came to a ticket that knows it, or knows nothing
abbrev pub acknowledges : Reading → Reading
acknowledges r = record r { sent_ack = true }

-- A coordinator's own record of the outcome is forced, and its ACK waits for its children: of a commit, under
-- Presumed Abort.
abbrev pub learns_commit_forced : Reading → Reading
learns_commit_forced r = record r {
  learnt_commit_kept = true;
  learnt_commit_forced = true;
  child_committed = not r.heuristic_kept || r.child_committed;
}

-- And of an abort, under Presumed Commit.
abbrev pub learns_abort_forced : Reading → Reading
learns_abort_forced r = record r {
  child_refused = true;
  learnt_abort_kept = true;
  learnt_abort_forced = true;
}

-- The ticket is settled: an ACK of it is true at any time.
pub record MayAcknowledge (r : Reading) : Type 0 where
  pub up : r.child_failed ≡ false
  pub settled : IsSettled r

-- The ticket is in doubt and its child asks.
pub record MayAsk (r : Reading) : Type 0 where
  pub up : r.child_failed ≡ false
  pub in_doubt : IsInDoubt r

-- the child asks for the outcome
abbrev pub asks : Reading → Reading
asks r = record r { sent_inquire = true }

-- An operator decides a prepared branch.
pub record MayDecideAlone (r : Reading) : Type 0 where
  pub manager : r.child_is_manager ≡ true
  pub up : r.child_failed ≡ false
  pub in_doubt : IsInDoubt r
  pub undecided : r.heuristic_kept ≡ false

-- an operator decides the branch, forced
abbrev pub decides_alone : Bool → Reading → Reading
decides_alone commit r = record r {
  heuristic_kept = true;
  heuristic_forced = true;
  heuristic_ever = true;
  heuristic_commits = commit;
}

-- An operator forgets a branch that was decided so.
pub record MayForget (r : Reading) : Type 0 where
  pub manager : r.child_is_manager ≡ true
  pub up : r.child_failed ≡ false
  pub heuristic : IsHeuristic r

-- the operator's decision may be forgotten, forced
abbrev pub forgets : Reading → Reading
forgets r = record r { forgot_kept = true; forgot_forced = true; forgot_ever = true }

-- A record of another case is forced at the child, and with it what stood before it.
pub record MayHardenChild (r : Reading) : Type 0 where
  pub up : r.child_failed ≡ false

-- something was forced at the child: all of its log is
abbrev pub hardens_child : Reading → Reading
hardens_child r = record r {
  prepared_forced = r.prepared_kept;
  prepared_ever = r.prepared_kept || r.prepared_ever;
  learnt_commit_forced = r.learnt_commit_kept;
  learnt_abort_forced = r.learnt_abort_kept;
  heuristic_forced = r.heuristic_kept;
  heuristic_ever = r.heuristic_kept || r.heuristic_ever;
  forgot_forced = r.forgot_kept;
  forgot_ever = r.forgot_kept || r.forgot_ever;
}

-- A trim of the child's log takes a ticket that is not known, with all its records.
pub record MayTrimChild (r : Reading) : Type 0 where
  pub up : r.child_failed ≡ false
  pub forgotten : IsForgotten r

-- a trim takes the records of a branch that is over
abbrev pub trims_child : Reading → Reading
trims_child r = record r {
  prepared_kept = false;
  prepared_forced = false;
  learnt_commit_kept = false;
  learnt_commit_forced = false;
  learnt_abort_kept = false;
  learnt_abort_forced = false;
  heuristic_kept = false;
  heuristic_forced = false;
  forgot_kept = false;
  forgot_forced = false;
}
