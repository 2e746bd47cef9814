-- The reading of a tree that was just opened: nothing has happened.
use Rattle.std.specs.Prelude.{◌≡◌, Bool, false}
use Rattle.proof_pairs.specs.Reading.{Reading, Closed}
use Rattle.proof_pairs.specs.Invariant.{PresumedAbort, PresumedCommit}

-- The parent is the root, or is cascaded; the child is a manager, or a coordinator.
abbrev pub opened : Bool → Bool → Reading
opened root manager = record {
  parent_is_root = root;
  child_is_manager = manager;
  outcome = false;
  failed = false;
  born = false;
  phase = Closed;
  accepted = false;
  acked = false;
  took_part = false;
  first_yes = false;
  first_no = false;
  first_read = false;
  told_committed = false;
  told_aborted = false;
  refused = false;
  took_part_up = false;
  read_up = false;
  collecting_kept = false;
  collecting_forced = false;
  own_prepare_kept = false;
  own_prepare_forced = false;
  own_prepare_ever = false;
  commit_kept = false;
  commit_forced = false;
  abort_kept = false;
  end_kept = false;
  collects = false;
  names = false;
  owed = false;
  child_failed = false;
  issued = false;
  ticket_open = false;
  child_refused = false;
  child_committed = false;
  prepared_kept = false;
  prepared_forced = false;
  prepared_ever = false;
  learnt_commit_kept = false;
  learnt_commit_forced = false;
  learnt_abort_kept = false;
  learnt_abort_forced = false;
  heuristic_kept = false;
  heuristic_forced = false;
  heuristic_ever = false;
  heuristic_commits = false;
  forgot_kept = false;
  forgot_forced = false;
  forgot_ever = false;
  sent_prepare = false;
  sent_yes = false;
  sent_no = false;
  sent_read = false;
  sent_commit = false;
  sent_abort = false;
  sent_ack = false;
  sent_inquire = false;
}

-- One stage comes from the other by a move whose guard holds, and both have the invariant.
abbrev pub Reaches : (Reading → Type 0) → (Reading → Type 0) → (Reading → Reading) → Reading → Reading
    → Type 0
Reaches Inv May move old new = Inv old × May old × (move old ≡ new) × Inv new

-- The invariant holds if nothing has happened.
pub record Opens : Type 0 where
  pub presumed_abort : (root manager : Bool) → PresumedAbort (opened root manager)
  pub presumed_commit : (root manager : Bool) → PresumedCommit (opened root manager)
