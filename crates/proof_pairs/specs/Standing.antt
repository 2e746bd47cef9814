-- What is said of a pair in the protocol's words.
use Rattle.std.specs.Prelude.{◌≡◌, true, false, ◌⊎◌}
use Rattle.proof_pairs.specs.Reading.{Reading, is_live}

-- The child.

-- The ticket is settled: it is not in doubt and never will be, whatever a restart takes away.
pub record IsSettled (r : Reading) : Type 0 where
  pub issued : r.issued ≡ true
  pub closed : r.ticket_open ≡ false
  pub decided : (r.prepared_kept ≡ false)
      ⊎ ((r.learnt_commit_forced ≡ true) ⊎ ((r.learnt_abort_forced ≡ true) ⊎ (r.forgot_forced ≡ true)))

-- The ticket is in doubt: prepared, or decided by an operator, and not told the outcome.
pub record IsInDoubt (r : Reading) : Type 0 where
  pub prepared : r.prepared_kept ≡ true
  pub no_commit : r.learnt_commit_kept ≡ false
  pub no_abort : r.learnt_abort_kept ≡ false
  pub not_forgotten : r.forgot_kept ≡ false

-- The child no longer knows the ticket (at a coordinator also: it has begun to abort). It keeps no promise of
-- it, or its operator forgot it, or it obeyed the outcome and no operator had decided before.
pub record IsForgotten (r : Reading) : Type 0 where
  pub closed : r.ticket_open ≡ false
  pub nothing : (r.prepared_kept ≡ false)
      ⊎ ((r.forgot_kept ≡ true)
      ⊎ ((r.heuristic_kept ≡ false) × ((r.learnt_commit_kept ≡ true) ⊎ (r.learnt_abort_kept ≡ true))))

-- An operator decided the branch, and has not forgotten it.
pub record IsHeuristic (r : Reading) : Type 0 where
  pub heuristic : r.heuristic_kept ≡ true
  pub not_forgotten : r.forgot_kept ≡ false

-- A heuristic decision stands against the outcome.
pub record MismatchStands (r : Reading) : Type 0 where
  pub heuristic : r.heuristic_forced ≡ true
  pub against : ((r.heuristic_commits ≡ true) × (r.outcome ≡ false))
      ⊎ ((r.heuristic_commits ≡ false) × (r.outcome ≡ true))
  pub not_forgotten : r.forgot_kept ≡ false

-- The parent.

-- The case consents to a commit: it is the root's, or it said YES with its Prepare forced, or READ.
abbrev pub Consents : Reading → Type 0
Consents r = (r.parent_is_root ≡ true) ⊎ ((r.own_prepare_ever ≡ true) ⊎ (r.read_up ≡ true))

-- The case heard a vote for commit from the ticket before any other vote of it.
abbrev pub VotedFor : Reading → Type 0
VotedFor r = (r.first_yes ≡ true) ⊎ (r.first_read ≡ true)

-- All that the case needs of this ticket to go on from the votes.
abbrev pub HasVote : Reading → Type 0
HasVote r = r.accepted ≡ true → VotedFor r

-- The parent is Prepared: it waits for the outcome.
pub record Waits (r : Reading) : Type 0 where
  pub promised : r.own_prepare_kept ≡ true
  pub no_commit : r.commit_kept ≡ false
  pub no_abort : r.abort_kept ≡ false

-- The parent has a decision whose end is still to come.
pub record IsCommitting (r : Reading) : Type 0 where
  pub up : r.failed ≡ false
  pub decided : r.commit_kept ≡ true
  pub not_ended : r.end_kept ≡ false

-- The parent has an abort whose end is still to come.
pub record IsAborting (r : Reading) : Type 0 where
  pub up : r.failed ≡ false
  pub decided : r.abort_kept ≡ true
  pub not_ended : r.end_kept ≡ false

-- The parent knows nothing of the case, under Presumed Abort: it ended, or an Abort stands, or no decision
-- and no Prepare.
pub record IsUnknownUnderAbort (r : Reading) : Type 0 where
  pub up : r.failed ≡ false
  pub closed : is_live r.phase ≡ false
  pub nothing : (r.end_kept ≡ true)
      ⊎ ((r.abort_kept ≡ true) ⊎ ((r.commit_kept ≡ false) × (r.own_prepare_kept ≡ false)))

-- The parent knows nothing of the case, under Presumed Commit: it ended, or a Commit stands, or an Abort
-- that owes this ticket nothing, or no Collecting.
pub record IsUnknownUnderCommit (r : Reading) : Type 0 where
  pub up : r.failed ≡ false
  pub closed : is_live r.phase ≡ false
  pub nothing : (r.end_kept ≡ true)
      ⊎ ((r.commit_kept ≡ true)
      ⊎ (((r.abort_kept ≡ true) × (r.owed ≡ false)) ⊎ (r.collecting_kept ≡ false)))

-- The ticket does not belong to the case: it is not among the accepted children in memory, and no kept
-- record names it.
pub record IsStranger (r : Reading) : Type 0 where
  pub up : r.failed ≡ false
  pub not_accepted : r.accepted ≡ false
  pub not_collected : r.collects ≡ false
  pub not_named : r.names ≡ false
  pub not_owed : r.owed ≡ false
