-- What one pair comes to: a parent's case of a transaction, and one ticket that its child got for that
-- case.
-- Every fact that the protocol can make true of the pair is one field.
use Rattle.std.specs.Prelude.{Bool, true, false}

-- What a process that is up holds of a coordinator's case in memory: it joins children and does work, it
-- waits for the votes, or it holds nothing (nobody began it, it was decided, or the process has been down
-- since).
pub data HeldPhase : Type 0 where
  Active : HeldPhase
  Collecting : HeldPhase
  Closed : HeldPhase

-- the case can still be decided
abbrev pub is_live : HeldPhase → Bool
is_live Active = true
is_live Collecting = true
is_live Closed = false

-- A pair of a parent's case and a child's ticket, as the world has it: what each process keeps, remembers
-- and once did, and what the net holds.
pub record Reading : Type 0 where
  -- The pair and its transaction.
  -- The parent is the root: it decides. Else it is a cascaded coordinator: it is a child of another pair.
  pub parent_is_root : Bool
  -- The child is a resource manager. Else it is a cascaded coordinator: it is the parent of other pairs.
  pub child_is_manager : Bool
  -- The transaction's outcome is commit: a Commit was once in the forced front of the root's log.
  pub outcome : Bool
  -- The parent's process and memory.
  -- A device failed, or the process is down: it does nothing until its restart.
  pub failed : Bool
  -- The case is known: begun at the root, or its own ticket was issued.
  pub born : Bool
  -- What memory holds of the case.
  pub phase : HeldPhase
  -- Memory has the ticket among the case's accepted children.
  pub accepted : Bool
  -- An ACK of the ticket was heard after the decision, since the last restart.
  pub acked : Bool
  -- What happened at the parent, ever.
  -- The case accepted the ticket.
  pub took_part : Bool
  -- The first vote of the ticket that the case heard while it waited for votes was YES, NO or READ.
  pub first_yes : Bool
  pub first_no : Bool
  pub first_read : Bool
  -- The root told its application `committed`; `aborted`.
  pub told_committed : Bool
  pub told_aborted : Bool
  -- The case ended without a commit: it gave up, learnt an abort, or died before it had consented.
  pub refused : Bool
  -- The parent as a child of the pair above (always so at a root that was begun).
  -- The case takes part: it is the root's, or was accepted by a case that takes part.
  pub took_part_up : Bool
  -- It sent READ.
  pub read_up : Bool
  -- The parent's log: the record is in the kept list, is in its forced front, was ever in a forced
  -- front.
  pub collecting_kept : Bool
  pub collecting_forced : Bool
  pub own_prepare_kept : Bool
  pub own_prepare_forced : Bool
  pub own_prepare_ever : Bool
  pub commit_kept : Bool
  pub commit_forced : Bool
  pub abort_kept : Bool
  pub end_kept : Bool
  -- A kept Collecting names the ticket; a kept Prepare names it; a kept Commit or Abort names it, so its
  -- ACK is owed.
  pub collects : Bool
  pub names : Bool
  pub owed : Bool
  -- The child.
  -- A device failed, or the process is down: it does nothing until its restart.
  pub child_failed : Bool
  -- JOINED told the parent's case of the ticket.
  pub issued : Bool
  -- The ticket's case is open: a manager's is Active, a coordinator's Active or Collecting.
  pub ticket_open : Bool
  -- The ticket's case ended without a commit, as `refused` says of the parent's; it ended by a commit.
  pub child_refused : Bool
  pub child_committed : Bool
  -- The child's log: a manager's Prepared or a coordinator's Prepare.
  pub prepared_kept : Bool
  pub prepared_forced : Bool
  pub prepared_ever : Bool
  -- Committed, or a coordinator's Commit, or Told of a commit.
  pub learnt_commit_kept : Bool
  pub learnt_commit_forced : Bool
  -- RolledBack, or a coordinator's Abort after its Prepare, or Told of an abort.
  pub learnt_abort_kept : Bool
  pub learnt_abort_forced : Bool
  -- HeurCommit or HeurRollback, and which of the two.
  pub heuristic_kept : Bool
  pub heuristic_forced : Bool
  pub heuristic_ever : Bool
  pub heuristic_commits : Bool
  -- Forgot.
  pub forgot_kept : Bool
  pub forgot_forced : Bool
  pub forgot_ever : Bool
  -- Each message between the two that was ever sent.
  pub sent_prepare : Bool
  pub sent_yes : Bool
  pub sent_no : Bool
  pub sent_read : Bool
  pub sent_commit : Bool
  pub sent_abort : Bool
  pub sent_ack : Bool
  pub sent_inquire : Bool
