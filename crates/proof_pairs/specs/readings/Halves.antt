-- How one event of a process changes its half of a reading.
use Rattle.std.specs.Prelude.{Bool, true, false, not, ◌||◌, ◌&&◌, List}
use Rattle.protocol.specs.declared.names.Case.{Case}
use Rattle.protocol_words.specs.Variants.{CommittedOutcome}
use Rattle.protocol.specs.declared.records.Record.{Record}
use Rattle.protocol.specs.Records.{has, is_abort, is_prepare, is_heuristic, is_decided, is_forgot}
use Rattle.proof_pairs.specs.ChildCrash.{ChildFront}
use Rattle.proof_pairs.specs.Reading.{Closed}
use Rattle.proof_pairs.specs.readings.ReadingOf.{ChildHalf, ParentHalf}
use Rattle.protocol.specs.Audits.{is_promise, is_learnt_commit, is_learnt_abort}

-- a record was forced: all that stood before it is
abbrev pub hardened : ChildHalf → ChildHalf
hardened k = record k {
  prepared_forced = k.prepared_kept;
  prepared_ever = k.prepared_kept || k.prepared_ever;
  learnt_commit_forced = k.learnt_commit_kept;
  learnt_abort_forced = k.learnt_abort_kept;
  heuristic_forced = k.heuristic_kept;
  heuristic_ever = k.heuristic_kept || k.heuristic_ever;
  forgot_forced = k.forgot_kept;
  forgot_ever = k.forgot_kept || k.forgot_ever;
}

-- the promise was forced
abbrev pub promised : ChildHalf → ChildHalf
promised k = record (hardened k)
    { is_open = false; prepared_kept = true; prepared_forced = true; prepared_ever = true }

-- an Abort that names nobody was written after the promise, unforced
abbrev pub aborts_promise : ParentHalf → ParentHalf
aborts_promise p = record p { abort_kept = true; obeyed_abort = true }

-- A record was forced: all that stood before it is.
abbrev pub hardened_parent : ParentHalf → ParentHalf
hardened_parent p = record p {
  collecting_forced = p.collecting_kept;
  own_prepare_forced = p.own_prepare_kept;
  own_prepare_ever = p.own_prepare_kept || p.own_prepare_ever;
  commit_forced = p.commit_kept;
}

-- The ticket's YES was counted, and a Commit was forced; it names the ticket or not.
abbrev pub commits_naming : Bool → ParentHalf → ParentHalf
commits_naming named p = record (hardened_parent p) {
  phase = Closed;
  first_yes = true;
  told_committed = true;
  begun = true;
  commit_kept = true;
  commit_forced = true;
  owed = named || p.owed;
}

-- What a list of records holds of the ticket's case; of an operator's decision also what was ever forced.
abbrev pub child_front : Case → List Record → List Record → ChildFront
child_front d rs durable = record {
  prepared = has (is_promise d) rs;
  learnt_commit = has (is_learnt_commit d) rs;
  learnt_abort = has (is_learnt_abort d) rs || (has (is_abort d) rs && has (is_prepare d) rs);
  heuristic = has (is_heuristic d) rs;
  heuristic_commits = has (is_decided d CommittedOutcome) rs || has (is_decided d CommittedOutcome) durable;
  forgot = has (is_forgot d) rs;
}

-- The device failed in an event that wrote nothing of the case, and the forced front moved on to this one.
abbrev pub failed_half : ChildFront → ChildHalf → ChildHalf
failed_half front k = record k {
  failed = true;
  is_open = false;
  prepared_forced = front.prepared;
  prepared_ever = front.prepared || k.prepared_ever;
  learnt_commit_forced = front.learnt_commit;
  learnt_abort_forced = front.learnt_abort;
  heuristic_forced = front.heuristic;
  heuristic_ever = front.heuristic || k.heuristic_ever;
  forgot_forced = front.forgot;
  forgot_ever = front.forgot || k.forgot_ever;
}

-- It failed after the promise.
abbrev pub failed_promise : ChildFront → ChildHalf → ChildHalf
failed_promise front k = record (failed_half front k) { prepared_kept = true }

-- The process restarted with this front.
abbrev pub restarted_half : ChildFront → ChildHalf → ChildHalf
restarted_half front k = record k {
  failed = false;
  is_open = false;
  prepared_kept = front.prepared;
  prepared_forced = front.prepared;
  prepared_ever = front.prepared || k.prepared_ever;
  learnt_commit_kept = front.learnt_commit;
  learnt_commit_forced = front.learnt_commit;
  learnt_abort_kept = front.learnt_abort;
  learnt_abort_forced = front.learnt_abort;
  heuristic_kept = front.heuristic;
  heuristic_forced = front.heuristic;
  heuristic_ever = front.heuristic || k.heuristic_ever;
  heuristic_commits = front.heuristic_commits;
  forgot_kept = front.forgot;
  forgot_forced = front.forgot;
  forgot_ever = front.forgot || k.forgot_ever;
}

-- A front leaves its case in doubt.
abbrev pub is_in_doubt : ChildFront → Bool
is_in_doubt front = front.prepared && not front.learnt_commit && not front.learnt_abort && not front.forgot

-- A trim took all records of the case.
abbrev pub trimmed_parent : ParentHalf → ParentHalf
trimmed_parent p = record p {
  collecting_kept = false;
  collecting_forced = false;
  own_prepare_kept = false;
  own_prepare_forced = false;
  commit_kept = false;
  commit_forced = false;
  abort_kept = false;
  end_kept = false;
  collects = false;
  names = false;
  owed = false;
}
