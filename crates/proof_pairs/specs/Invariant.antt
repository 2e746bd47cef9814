-- What holds of every pair at every point of every run.
use Rattle.std.specs.Prelude.{◌≡◌, true, false, ◌⊎◌}
use Rattle.proof_pairs.specs.Reading.{Reading, Active, is_live}
use Rattle.proof_pairs.specs.Standing.{IsSettled, Consents, VotedFor}

-- What an unknown case of the parent has: nothing.
pub record IsUnborn (r : Reading) : Type 0 where
  pub closed : is_live r.phase ≡ false
  pub not_refused : r.refused ≡ false
  pub not_participant : r.took_part_up ≡ false
  pub not_accepted : r.took_part ≡ false
  pub no_read : r.read_up ≡ false
  pub no_collecting : r.collecting_kept ≡ false
  pub no_prepare : (r.own_prepare_kept ≡ false) × (r.own_prepare_ever ≡ false)
  pub no_commit : r.commit_kept ≡ false
  pub no_abort : r.abort_kept ≡ false
  pub no_end : r.end_kept ≡ false
  pub sent_nothing : (r.sent_prepare ≡ false) × (r.sent_commit ≡ false) × (r.sent_abort ≡ false)
  pub root_undecided : r.parent_is_root ≡ true → r.outcome ≡ false

-- A case that can still be decided has left no trace of a decision.
pub record IsUndecided (r : Reading) : Type 0 where
  pub up : r.failed ≡ false
  pub not_refused : r.refused ≡ false
  pub no_read : r.read_up ≡ false
  pub no_prepare : (r.own_prepare_kept ≡ false) × (r.own_prepare_ever ≡ false)
  pub no_commit : r.commit_kept ≡ false
  pub no_abort : r.abort_kept ≡ false
  pub no_end : r.end_kept ≡ false
  pub sent_nothing : (r.sent_commit ≡ false) × (r.sent_abort ≡ false)
  pub root_undecided : r.parent_is_root ≡ true → r.outcome ≡ false
  pub no_first_no : r.first_no ≡ false
  pub members_known : r.took_part ≡ true → r.accepted ≡ true

-- A case that still joins children has asked nobody.
pub record HasNotAsked (r : Reading) : Type 0 where
  pub no_prepare : r.sent_prepare ≡ false
  pub no_collecting : r.collecting_kept ≡ false
  pub no_vote : (r.first_yes ≡ false) × (r.first_read ≡ false)

-- A ticket that was never issued has no trace at all.
pub record IsUnissued (r : Reading) : Type 0 where
  pub closed : r.ticket_open ≡ false
  pub not_refused : r.child_refused ≡ false
  pub not_committed : r.child_committed ≡ false
  pub no_prepared : (r.prepared_kept ≡ false) × (r.prepared_ever ≡ false)
  pub no_heuristic : r.heuristic_ever ≡ false
  pub not_accepted : r.took_part ≡ false
  pub told_nothing : (r.sent_commit ≡ false) × (r.sent_abort ≡ false)
  pub no_read : r.sent_read ≡ false

-- An open ticket has promised nothing and said nothing.
pub record HasNotVoted (r : Reading) : Type 0 where
  pub up : r.child_failed ≡ false
  pub issued : r.issued ≡ true
  pub not_refused : r.child_refused ≡ false
  pub not_committed : r.child_committed ≡ false
  pub no_prepared : (r.prepared_kept ≡ false) × (r.prepared_ever ≡ false)
  pub no_heuristic : r.heuristic_ever ≡ false
  pub said_nothing : (r.sent_read ≡ false) × (r.sent_no ≡ false) × (r.sent_ack ≡ false)

-- What both presumptions keep.
pub record Common (r : Reading) : Type 0 where
  -- The parent's case, from its birth to its decision.
  pub unborn : r.born ≡ false → IsUnborn r
  pub undecided : is_live r.phase ≡ true → IsUndecided r
  pub not_asked : r.phase ≡ Active → HasNotAsked r
  pub accepted_took_part : r.accepted ≡ true → r.took_part ≡ true
  pub acceptance_is_of_an_issued_ticket : r.took_part ≡ true → r.issued ≡ true
  pub asked_takes_part : r.sent_prepare ≡ true → (r.took_part ≡ true) × (r.took_part_up ≡ true)
  pub root_takes_part : r.parent_is_root ≡ true → r.born ≡ true → r.took_part_up ≡ true
  pub root_promises_nobody : r.parent_is_root ≡ true → (r.own_prepare_kept ≡ false)
      × (r.own_prepare_ever ≡ false) × (r.read_up ≡ false)
  -- First votes and acknowledgements are messages that were sent.
  pub yes_was_sent : r.first_yes ≡ true → (r.sent_yes ≡ true) × (r.first_read ≡ false)
      × (r.first_no ≡ false)
  pub read_was_sent : r.first_read ≡ true → (r.sent_read ≡ true) × (r.first_no ≡ false)
  pub no_was_sent : r.first_no ≡ true → r.sent_no ≡ true
  pub ack_was_sent : r.acked ≡ true → r.sent_ack ≡ true
  -- The parent's log.
  pub forced_collecting : r.collecting_forced ≡ true → r.collecting_kept ≡ true
  pub forced_promise : r.own_prepare_forced ≡ true → (r.own_prepare_kept ≡ true)
      × (r.own_prepare_ever ≡ true)
  pub promise_is_forced : r.own_prepare_kept ≡ true → r.failed ≡ false → r.own_prepare_forced ≡ true
  pub promise_is_once : r.own_prepare_kept ≡ true → r.own_prepare_ever ≡ true → r.own_prepare_forced ≡ true
  pub promise_takes_part : r.own_prepare_kept ≡ true → r.took_part_up ≡ true
  pub promise_or_read : r.read_up ≡ true → (r.own_prepare_kept ≡ false) × (r.refused ≡ false)
  pub forced_commit : r.commit_forced ≡ true → r.commit_kept ≡ true
  pub commit_decided : r.commit_kept ≡ true → (r.refused ≡ false) × (r.abort_kept ≡ false)
  pub root_commit_is_the_outcome : r.parent_is_root ≡ true → r.commit_forced ≡ true → r.outcome ≡ true
  pub root_commit_is_once : r.parent_is_root ≡ true → r.outcome ≡ true → r.commit_kept ≡ true
      → r.commit_forced ≡ true
  pub root_commit_is_forced : r.parent_is_root ≡ true → r.commit_kept ≡ true → r.failed ≡ false
      → r.commit_forced ≡ true
  pub cascaded_commit_obeys : r.parent_is_root ≡ false → r.commit_kept ≡ true → (r.own_prepare_kept ≡ true)
      × (r.outcome ≡ true)
  pub owed_took_part : r.owed ≡ true → r.took_part ≡ true
  pub told_commit_is_the_outcome : r.told_committed ≡ true → r.outcome ≡ true
  pub told_abort_is_refused : r.told_aborted ≡ true → (r.refused ≡ true) × (r.took_part_up ≡ true)
  -- What a commit, a promise and a READ of the parent rest on.
  pub commit_has_votes : r.commit_kept ≡ true → r.took_part ≡ true → VotedFor r
  pub promise_has_votes : r.own_prepare_kept ≡ true → r.took_part ≡ true → (r.names ≡ true)
      ⊎ (r.first_read ≡ true)
  pub names_has_yes : r.names ≡ true → (r.first_yes ≡ true) × (r.own_prepare_kept ≡ true)
  pub old_promise_has_votes : r.own_prepare_ever ≡ true → r.took_part ≡ true → VotedFor r
  pub read_has_reads : r.read_up ≡ true → r.took_part ≡ true → r.first_read ≡ true
  pub outcome_has_votes : r.parent_is_root ≡ true → r.outcome ≡ true → r.took_part ≡ true → VotedFor r
  -- The chain: a case that takes part in a committed transaction has consented, and never ends otherwise.
  pub participant_consented : r.outcome ≡ true → r.took_part_up ≡ true → (r.refused ≡ false) × Consents r
  pub promise_broken_by_parent : r.child_refused ≡ true → r.prepared_ever ≡ true → r.refused ≡ true
  pub kept_promise_broken_by_parent : r.child_refused ≡ true → r.prepared_kept ≡ true → r.refused ≡ true
  -- The child's ticket.
  pub unissued : r.issued ≡ false → IsUnissued r
  pub not_voted : r.ticket_open ≡ true → HasNotVoted r
  pub child_forced_promise : r.prepared_forced ≡ true → (r.prepared_kept ≡ true) × (r.prepared_ever ≡ true)
  pub child_promise_is_forced : r.prepared_kept ≡ true → r.child_failed ≡ false → r.prepared_forced ≡ true
  pub child_promise_is_once : r.prepared_kept ≡ true → r.prepared_ever ≡ true → r.prepared_forced ≡ true
  pub promise_was_asked : r.prepared_kept ≡ true → r.sent_prepare ≡ true
  pub learnt_commit_stands_behind : r.learnt_commit_kept ≡ true → (r.prepared_kept ≡ true)
      × (r.outcome ≡ true)
  pub learnt_abort_stands_behind : r.learnt_abort_kept ≡ true → (r.prepared_kept ≡ true)
      × (r.refused ≡ true) × (r.child_refused ≡ true)
  pub forced_learnt_commit : r.learnt_commit_forced ≡ true → r.learnt_commit_kept ≡ true
  pub forced_learnt_abort : r.learnt_abort_forced ≡ true → r.learnt_abort_kept ≡ true
  pub child_commit_is_the_outcome : r.child_committed ≡ true → r.outcome ≡ true
  -- Operators.
  pub heuristic_stands_behind : r.heuristic_kept ≡ true → (r.prepared_kept ≡ true)
      × (r.child_is_manager ≡ true)
  pub forced_heuristic : r.heuristic_forced ≡ true → (r.heuristic_kept ≡ true) × (r.heuristic_ever ≡ true)
  pub heuristic_is_forced : r.heuristic_kept ≡ true → r.child_failed ≡ false → r.heuristic_forced ≡ true
  pub heuristic_stays : r.heuristic_ever ≡ true → (r.heuristic_forced ≡ true) ⊎ (r.forgot_ever ≡ true)
  pub forgot_stays : r.forgot_ever ≡ true → r.prepared_kept ≡ true → r.forgot_kept ≡ true
  pub forgot_stands_behind : r.forgot_kept ≡ true → r.heuristic_kept ≡ true
  pub forced_forgot : r.forgot_forced ≡ true → (r.forgot_kept ≡ true) × (r.forgot_ever ≡ true)
  pub forgot_is_once : r.forgot_kept ≡ true → r.forgot_ever ≡ true → r.forgot_forced ≡ true
  pub forgot_was_decided : r.forgot_ever ≡ true → r.heuristic_ever ≡ true
  pub forgot_is_forced : r.forgot_kept ≡ true → r.child_failed ≡ false → r.forgot_forced ≡ true
  -- What each message means for ever.
  pub yes_means : r.sent_yes ≡ true → (r.prepared_ever ≡ true) × (r.sent_prepare ≡ true)
  pub inquire_means : r.sent_inquire ≡ true → r.sent_prepare ≡ true
  pub read_means : r.sent_read ≡ true → (r.sent_prepare ≡ true) × (r.child_refused ≡ false)
      × (r.prepared_kept ≡ false) × (r.prepared_ever ≡ false) × IsSettled r
  pub no_means : r.sent_no ≡ true → (r.sent_prepare ≡ true)
  pub commit_means : r.sent_commit ≡ true → (r.outcome ≡ true) ⊎ IsSettled r
  pub abort_means : r.sent_abort ≡ true → r.sent_prepare ≡ true → (r.refused ≡ true) ⊎ IsSettled r
  pub ack_means : r.sent_ack ≡ true → IsSettled r

-- Presumed Abort: a coordinator forces and names who will commit, and forgets an abort.
pub record PresumedAbort (r : Reading) : Type 0 where
  pub common : Common r
  pub never_collects : r.collecting_kept ≡ false
  pub commit_is_forced : r.commit_kept ≡ true → r.failed ≡ false → r.commit_forced ≡ true
  pub learnt_commit_is_forced : r.learnt_commit_kept ≡ true → r.child_failed ≡ false
      → r.learnt_commit_forced ≡ true
  pub abort_is_refused : r.abort_kept ≡ true → r.refused ≡ true
  pub commit_means_commit : r.sent_commit ≡ true → r.outcome ≡ true
  pub commit_owes : r.commit_kept ≡ true → r.took_part ≡ true → (r.owed ≡ true) ⊎ (r.first_read ≡ true)
  pub owed_stands : r.owed ≡ true → r.commit_kept ≡ true
  pub end_stands_behind_commit : r.end_kept ≡ true → r.commit_kept ≡ true
  pub ended_is_settled : r.end_kept ≡ true → r.sent_prepare ≡ true → IsSettled r
  -- A parent that has forgotten has refused, or its child is settled.
  pub forgotten : r.sent_prepare ≡ true → is_live r.phase ≡ false → r.commit_kept ≡ false
      → r.own_prepare_kept ≡ false → (r.refused ≡ true) ⊎ IsSettled r

-- Presumed Commit: a coordinator forces and names whom it will ask, and who must learn an abort.
pub record PresumedCommit (r : Reading) : Type 0 where
  pub common : Common r
  pub learnt_abort_is_forced : r.learnt_abort_kept ≡ true → r.child_failed ≡ false
      → r.learnt_abort_forced ≡ true
  pub abort_is_refused : r.abort_kept ≡ true → (r.refused ≡ true) ⊎ (r.read_up ≡ true)
  pub collects_all : r.collecting_kept ≡ true → r.took_part ≡ true → r.collects ≡ true
  pub collects_stands : r.collects ≡ true → (r.collecting_kept ≡ true) × (r.took_part ≡ true)
  pub collected_is_decided : r.collecting_kept ≡ true → is_live r.phase ≡ false
      → r.own_prepare_kept ≡ false → r.commit_kept ≡ false → (r.refused ≡ true) ⊎ (r.read_up ≡ true)
  pub abort_owes : r.abort_kept ≡ true → r.sent_prepare ≡ true → (r.owed ≡ true) ⊎ IsSettled r
  pub owed_stands : r.owed ≡ true → r.abort_kept ≡ true
  pub ended_is_settled : r.end_kept ≡ true → r.sent_prepare ≡ true → IsSettled r
  pub commit_is_the_outcome : r.commit_kept ≡ true → r.failed ≡ false → r.outcome ≡ true
  pub no_means_settled : r.sent_no ≡ true → (r.outcome ≡ true) ⊎ IsSettled r
  -- A parent that has forgotten has committed, or its child is settled.
  pub forgotten : r.sent_prepare ≡ true → (r.outcome ≡ true) ⊎ (IsSettled r ⊎ (r.collecting_forced ≡ true))
