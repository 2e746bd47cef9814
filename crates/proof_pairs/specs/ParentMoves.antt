-- What a coordinator does as a parent, root or cascaded: it joins children, asks them, hears them, answers
-- and forgets.
use Rattle.std.specs.Prelude.{◌≡◌, Bool, true, false, not, ◌||◌, ◌&&◌, ◌⊎◌}
use Rattle.proof_pairs.specs.Reading.{Reading, Active, Collecting, Closed}
use Rattle.proof_pairs.specs.Standing.{IsUnknownUnderAbort, IsUnknownUnderCommit, IsCommitting, IsAborting, IsStranger}

-- A first JOINED of the child came to its Active case.
pub record MayAccept (r : Reading) : Type 0 where
  pub active : r.phase ≡ Active
  pub joined : r.issued ≡ true

-- the case accepts the ticket
abbrev pub accepts : Reading → Reading
accepts r = record r { accepted = true; took_part = true }

-- The commit act at the root, or PREPARE at a cascaded case, found children: each is asked. (The pair above
-- says that a case which got PREPARE takes part.)
pub record MayAskForVotes (r : Reading) : Type 0 where
  pub active : r.phase ≡ Active
  pub asked_above : r.parent_is_root ≡ false → r.took_part_up ≡ true

-- Presumed Abort: nothing is written.
abbrev pub asks_for_votes : Reading → Reading
asks_for_votes r = record r { phase = Collecting; sent_prepare = r.accepted || r.sent_prepare }

-- Presumed Commit: Collecting, which names the accepted children, is forced first.
abbrev pub collects_votes : Reading → Reading
collects_votes r = record r {
  phase = Collecting;
  collecting_kept = true;
  collecting_forced = true;
  collects = r.accepted;
  sent_prepare = r.accepted || r.sent_prepare;
}

-- The case waits for votes, and the ticket's first vote came.
pub record MayHearYes (r : Reading) : Type 0 where
  pub waiting : r.phase ≡ Collecting
  pub accepted : r.accepted ≡ true
  pub said : r.sent_yes ≡ true
  pub first : r.first_read ≡ false

-- the first vote of the ticket was YES
abbrev pub hears_yes : Reading → Reading
hears_yes r = record r { first_yes = true }

-- READ comes as the first vote of an accepted ticket, while the case waits for votes
pub record MayHearRead (r : Reading) : Type 0 where
  pub waiting : r.phase ≡ Collecting
  pub accepted : r.accepted ≡ true
  pub said : r.sent_read ≡ true
  pub first : r.first_yes ≡ false

-- the first vote of the ticket was READ
abbrev pub hears_read : Reading → Reading
hears_read r = record r { first_read = true }

-- The ticket's own NO is its first vote, and ends the case.
pub record MayHearNo (r : Reading) : Type 0 where
  pub waiting : r.phase ≡ Collecting
  pub accepted : r.accepted ≡ true
  pub said : r.sent_no ≡ true
  pub first : (r.first_yes ≡ false) × (r.first_read ≡ false)

-- Presumed Abort: Abort is written unforced; the ticket, which said NO, is sent nothing; the root tells
-- `aborted`.
abbrev pub hears_no : Reading → Reading
hears_no r = record r {
  phase = Closed;
  first_no = true;
  refused = true;
  abort_kept = true;
  told_aborted = r.parent_is_root || r.told_aborted;
}

-- Presumed Commit: Abort is forced and does not name the ticket.
abbrev pub hears_no_forced : Reading → Reading
hears_no_forced r = record r {
  phase = Closed;
  first_no = true;
  refused = true;
  abort_kept = true;
  told_aborted = r.parent_is_root || r.told_aborted;
}

-- Another child's NO, an abort act or an ABORT from above ended a case that waits for votes.
pub record MayAbort (r : Reading) : Type 0 where
  pub waiting : r.phase ≡ Collecting

-- ABORT goes to an accepted ticket that did not vote READ (a NO would have ended the case before).
abbrev pub is_told_to_abort : Reading → Bool
is_told_to_abort r = r.accepted && not r.first_read

-- an Abort is appended: the root tells its application, and ABORT goes to each that it is owed to
abbrev pub aborts : Reading → Reading
aborts r = record r {
  phase = Closed;
  refused = true;
  abort_kept = true;
  told_aborted = r.parent_is_root || r.told_aborted;
  sent_abort = is_told_to_abort r || r.sent_abort;
}

-- Presumed Commit: Abort is forced and names to whom ABORT goes.
abbrev pub aborts_forced : Reading → Reading
aborts_forced r = record r {
  phase = Closed;
  refused = true;
  abort_kept = true;
  owed = is_told_to_abort r;
  told_aborted = r.parent_is_root || r.told_aborted;
  sent_abort = is_told_to_abort r || r.sent_abort;
}

-- An abort act or an ABORT ends an Active case; nothing is written.
pub record MayGiveUp (r : Reading) : Type 0 where
  pub active : r.phase ≡ Active

-- the case ends before any vote was asked for: ABORT goes to each accepted child
abbrev pub gives_up : Reading → Reading
gives_up r = record r {
  phase = Closed;
  refused = true;
  told_aborted = r.parent_is_root || r.told_aborted;
  sent_abort = r.accepted || r.sent_abort;
}

-- An ACK of the ticket came. (It counts if one is owed; before that it does no harm.)
pub record MayHearAck (r : Reading) : Type 0 where
  pub said : r.sent_ack ≡ true

-- an ACK of the ticket was heard
abbrev pub hears_ack : Reading → Reading
hears_ack r = record r { acked = true }

-- The last ACK came: End is written.
pub record MayEndCommit (r : Reading) : Type 0 where
  pub decided : IsCommitting r
  pub all_acked : r.owed ≡ true → r.acked ≡ true

-- the case aborted, and the ACK that is owed was heard
pub record MayEndAbort (r : Reading) : Type 0 where
  pub decided : IsAborting r
  pub all_acked : r.owed ≡ true → r.acked ≡ true

-- End is appended
abbrev pub ends : Reading → Reading
ends r = record r { end_kept = true }

-- INQUIRE found the case Committing; Aborting.
pub record MayAnswerCommit (r : Reading) : Type 0 where
  pub asked : r.sent_inquire ≡ true
  pub committing : IsCommitting r

-- an inquiry is answered by COMMIT
abbrev pub answers_commit : Reading → Reading
answers_commit r = record r { sent_commit = true }

-- an inquiry comes to a case that aborted
pub record MayAnswerAbort (r : Reading) : Type 0 where
  pub asked : r.sent_inquire ≡ true
  pub aborting : IsAborting r

-- an inquiry is answered by ABORT
abbrev pub answers_abort : Reading → Reading
answers_abort r = record r { sent_abort = true }

-- INQUIRE found no case to which the ticket belongs, or found it unknown: the presumption answers.
pub record MayPresumeAbort (r : Reading) : Type 0 where
  pub asked : r.sent_inquire ≡ true
  pub nothing_known : IsUnknownUnderAbort r ⊎ IsStranger r

-- an inquiry comes if nothing is known of the case, under Presumed Commit
pub record MayPresumeCommit (r : Reading) : Type 0 where
  pub asked : r.sent_inquire ≡ true
  pub nothing_known : IsUnknownUnderCommit r ⊎ IsStranger r

-- A record of another case is forced at the parent, and with it what stood before it.
pub record MayHardenParent (r : Reading) : Type 0 where
  pub up : r.failed ≡ false

-- something was forced at the parent: all of its log is
abbrev pub hardens_parent : Reading → Reading
hardens_parent r = record r {
  collecting_forced = r.collecting_kept;
  own_prepare_forced = r.own_prepare_kept;
  own_prepare_ever = r.own_prepare_kept || r.own_prepare_ever;
  commit_forced = r.commit_kept;
  outcome = (r.parent_is_root && r.commit_kept) || r.outcome;
}

-- A trim of the parent's log takes an unknown case with all its records.
abbrev pub trims_parent : Reading → Reading
trims_parent r = record r {
  collecting_kept = false;
  collecting_forced = false;
  own_prepare_kept = false;
  own_prepare_forced = false;
  commit_kept = false;
  commit_forced = false;
  abort_kept = false;
  end_kept = false;
  collects = false;
  names = false;
  owed = false;
}
