-- What the invariant promises of a pair, now and in every later world.
use Rattle.std.specs.Prelude.{◌≡◌, Bool, true, false, ◌⊎◌, ◌||◌}
use Rattle.proof_pairs.specs.Reading.{Reading}
use Rattle.proof_pairs.specs.Standing.{IsInDoubt, VotedFor, Waits}
use Rattle.proof_pairs.specs.ChildMoves.{MayRepeatYes, votes_yes}
use Rattle.proof_pairs.specs.Keeps.{Later}

-- Agreement: no end differs from the outcome, now or later.
pub record PairAgreement (Inv : Reading → Type 0) : Type 0 where
  -- A child that ended by a commit: the outcome is commit.
  pub commit_end : (r s : Reading) → Inv r → Later r s → Inv s → r.child_committed ≡ true → s.outcome ≡ true
  -- A child that takes part and ended without one (it never promised, its promise was lost, or it learnt
  -- the abort).
  pub abort_end : (r s : Reading) → Inv r → Later r s → Inv s → r.child_refused ≡ true → r.took_part ≡ true
      → r.took_part_up ≡ true → s.outcome ≡ false
  -- The root: what it told, and what it wrote.
  pub told_commit : (r s : Reading) → Inv r → Later r s → Inv s → r.told_committed ≡ true → s.outcome ≡ true
  pub told_abort : (r s : Reading) → Inv r → Later r s → Inv s → r.told_aborted ≡ true → s.outcome ≡ false
  pub root_commit : (r s : Reading) → Inv r → Later r s → Inv s → r.parent_is_root ≡ true
      → r.commit_forced ≡ true → s.outcome ≡ true
  pub root_abort : (r s : Reading) → Inv r → Later r s → Inv s → r.parent_is_root ≡ true → r.refused ≡ true
      → s.outcome ≡ false

-- The commit rule.
pub record PairCommitRule (Inv : Reading → Type 0) : Type 0 where
  -- Where the outcome is commit, the case that accepted a participant heard YES or READ of it, as its first
  -- vote.
  pub participant_voted : (r : Reading) → Inv r → r.outcome ≡ true → r.took_part_up ≡ true
      → r.took_part ≡ true → VotedFor r
  -- A vote that was heard was sent.
  pub vote_was_sent : (r : Reading) → Inv r → VotedFor r → (r.sent_yes ≡ true) ⊎ (r.sent_read ≡ true)
  -- YES is sent with the promise in the forced front, the first time and each time.
  pub yes_is_backed : (r : Reading) → Inv r → MayRepeatYes r → r.prepared_forced ≡ true
  pub first_yes_is_backed : (r : Reading) → (votes_yes r).prepared_forced ≡ true
  pub yes_was_backed : (r : Reading) → Inv r → r.sent_yes ≡ true → r.prepared_ever ≡ true

-- True answers: COMMIT or ABORT that finds the ticket in doubt tells the outcome, now and for ever.
pub record PairAnswers (Inv : Reading → Type 0) : Type 0 where
  pub commit_is_true : (r s : Reading) → Inv r → Later r s → Inv s → r.sent_commit ≡ true → IsInDoubt r
      → s.outcome ≡ true
  pub abort_is_true : (r s : Reading) → Inv r → Later r s → Inv s → r.sent_abort ≡ true → IsInDoubt r
      → s.outcome ≡ false

-- Standing mismatches: an operator's decision, once forced, is in the forced front until an operator's
-- Forgot.
pub record PairMismatches (Inv : Reading → Type 0) : Type 0 where
  pub stands : (r s : Reading) → Inv r → Later r s → Inv s → r.heuristic_ever ≡ true
      → ((s.heuristic_forced ≡ true) × (s.heuristic_commits ≡ r.heuristic_commits)) ⊎ (s.forgot_ever ≡ true)
  -- In a process that is up, what is kept of it is forced.
  pub shows : (r : Reading) → Inv r → r.child_failed ≡ false → r.heuristic_kept ≡ true
      → r.heuristic_forced ≡ true

-- What the parent's first kept case that names the ticket says of it.
pub data Said : Type 0 where
  SaysCommit : Said
  SaysAbort : Said
  -- It is in doubt itself: its own parent is to be asked.
  AsksAbove : Said
  -- No kept case names it.
  Presumes : Said

-- What a kept case says that names the ticket or not, by its Commit, its Abort and its Prepare.
abbrev pub said_by : Bool → Bool → Bool → Bool → Said
said_by false _ _ _ = Presumes
said_by true true _ _ = SaysCommit
said_by true false true _ = SaysAbort
said_by true false false true = AsksAbove
said_by true false false false = SaysAbort

-- Its Commit or its Abort, else its Prepare; a Collecting with none of these is an abort.
abbrev pub kept_case_says : Reading → Said
kept_case_says r = said_by (r.collects || r.names || r.owed) r.commit_kept r.abort_kept r.own_prepare_kept

-- What an auditor needs, with the processes up.
pub record AuditedOutcome (Inv : Reading → Type 0) (presumed : Bool) : Type 0 where
  pub commit : (r : Reading) → Inv r → r.failed ≡ false → r.child_failed ≡ false → IsInDoubt r
      → kept_case_says r ≡ SaysCommit → r.outcome ≡ true
  pub abort : (r : Reading) → Inv r → r.failed ≡ false → r.child_failed ≡ false → IsInDoubt r
      → kept_case_says r ≡ SaysAbort → r.outcome ≡ false
  pub above : (r : Reading) → Inv r → r.failed ≡ false → r.child_failed ≡ false → IsInDoubt r
      → kept_case_says r ≡ AsksAbove → Waits r
  pub presumption : (r : Reading) → Inv r → r.failed ≡ false → r.child_failed ≡ false → IsInDoubt r
      → kept_case_says r ≡ Presumes → r.outcome ≡ presumed
  -- A case's own decision, or what it was told.
  pub own_commit : (r : Reading) → Inv r → r.learnt_commit_kept ≡ true → r.outcome ≡ true
  pub own_abort : (r : Reading) → Inv r → r.learnt_abort_kept ≡ true → r.outcome ≡ false
  -- The root's line: its Commit; with none, abort.
  pub root_commit : (r : Reading) → Inv r → r.failed ≡ false → r.parent_is_root ≡ true
      → r.commit_kept ≡ true → r.outcome ≡ true
  pub root_other : (r : Reading) → Inv r → r.failed ≡ false → r.parent_is_root ≡ true
      → r.commit_kept ≡ false → (r.abort_kept ≡ true) ⊎ (r.collecting_kept ≡ true) → r.outcome ≡ false
