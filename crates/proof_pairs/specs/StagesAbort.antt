-- Readings at the stages of whole runs, under Presumed Abort: each says what changed since the one before.
use Rattle.std.specs.Prelude.{true, false}
use Rattle.proof_pairs.specs.Reading.{Reading, Active, Collecting, Closed}
use Rattle.proof_pairs.specs.Opened.{opened}

-- A committed run of a root and a manager.

-- the root began the transaction
abbrev pub flat_commit_begun : Reading
flat_commit_begun = record (opened true true) { born = true; phase = Active; took_part_up = true }

-- the child gave a ticket
abbrev pub flat_commit_joined : Reading
flat_commit_joined = record flat_commit_begun { issued = true; ticket_open = true }

-- the case accepted it
abbrev pub flat_commit_accepted : Reading
flat_commit_accepted = record flat_commit_joined { accepted = true; took_part = true }

-- PREPARE went out
abbrev pub flat_commit_asked : Reading
flat_commit_asked = record flat_commit_accepted { phase = Collecting; sent_prepare = true }

-- the child promised and said YES
abbrev pub flat_commit_voted : Reading
flat_commit_voted = record flat_commit_asked {
  ticket_open = false;
  prepared_kept = true;
  prepared_forced = true;
  prepared_ever = true;
  sent_yes = true;
}

-- the YES was heard
abbrev pub flat_commit_heard : Reading
flat_commit_heard = record flat_commit_voted { first_yes = true }

-- the root committed
abbrev pub flat_commit_decided : Reading
flat_commit_decided = record flat_commit_heard {
  outcome = true;
  phase = Closed;
  told_committed = true;
  commit_kept = true;
  commit_forced = true;
  owed = true;
  sent_commit = true;
}

-- the child obeyed
abbrev pub flat_commit_obeyed : Reading
flat_commit_obeyed = record flat_commit_decided {
  child_committed = true;
  learnt_commit_kept = true;
  learnt_commit_forced = true;
  sent_ack = true;
}

-- its ACK was heard
abbrev pub flat_commit_acked : Reading
flat_commit_acked = record flat_commit_obeyed { acked = true }

-- End was appended
abbrev pub flat_commit_ended : Reading
flat_commit_ended = record flat_commit_acked { end_kept = true }

-- a trim took the root's records
abbrev pub flat_commit_trimmed : Reading
flat_commit_trimmed = record flat_commit_ended {
  commit_kept = false;
  commit_forced = false;
  end_kept = false;
  owed = false;
}

-- a trim took the child's records
abbrev pub flat_commit_trimmed_below : Reading
flat_commit_trimmed_below = record flat_commit_trimmed {
  prepared_kept = false;
  prepared_forced = false;
  learnt_commit_kept = false;
  learnt_commit_forced = false;
}

-- An aborted run: another manager votes NO; then this one loses its record of the abort, asks, and gets the
-- presumption.

-- the other manager's NO came: ABORT went out
abbrev pub flat_abort_aborted : Reading
flat_abort_aborted = record flat_commit_voted {
  phase = Closed;
  told_aborted = true;
  refused = true;
  abort_kept = true;
  sent_abort = true;
}

-- the child obeyed
abbrev pub flat_abort_obeyed : Reading
flat_abort_obeyed = record flat_abort_aborted { child_refused = true; learnt_abort_kept = true }

-- the child lost its record of the abort and asks
abbrev pub flat_abort_restarted : Reading
flat_abort_restarted = record flat_abort_obeyed { learnt_abort_kept = false; sent_inquire = true }

-- it was answered by what is presumed
abbrev pub flat_abort_answered : Reading
flat_abort_answered = record flat_abort_restarted {}

-- it obeyed again
abbrev pub flat_abort_obeyed_again : Reading
flat_abort_obeyed_again = record flat_abort_answered { learnt_abort_kept = true }

-- A manager's operator rolls back a branch that is then committed, and forgets it.

-- an operator rolled the branch back
abbrev pub operator_decided_alone : Reading
operator_decided_alone = record flat_commit_voted {
  heuristic_kept = true;
  heuristic_forced = true;
  heuristic_ever = true;
}

-- the YES was heard
abbrev pub operator_heard : Reading
operator_heard = record operator_decided_alone { first_yes = true }

-- the root committed
abbrev pub operator_decided : Reading
operator_decided = record operator_heard {
  outcome = true;
  phase = Closed;
  told_committed = true;
  commit_kept = true;
  commit_forced = true;
  owed = true;
  sent_commit = true;
}

-- the branch was told of the commit
abbrev pub operator_told : Reading
operator_told = record operator_decided {
  learnt_commit_kept = true;
  learnt_commit_forced = true;
  sent_ack = true;
}

-- the operator forgot it
abbrev pub operator_forgotten : Reading
operator_forgotten = record operator_told { forgot_kept = true; forgot_forced = true; forgot_ever = true }

-- A committed run of a cascaded coordinator and a manager below it.

-- the coordinator gave its ticket, and the case is Active
abbrev pub cascaded_commit_born : Reading
cascaded_commit_born = record (opened false true) { born = true; phase = Active }

-- the child gave a ticket
abbrev pub cascaded_commit_joined : Reading
cascaded_commit_joined = record cascaded_commit_born { issued = true; ticket_open = true }

-- the case accepted it
abbrev pub cascaded_commit_accepted : Reading
cascaded_commit_accepted = record cascaded_commit_joined { accepted = true; took_part = true }

-- the case takes part itself
abbrev pub cascaded_commit_took_part : Reading
cascaded_commit_took_part = record cascaded_commit_accepted { took_part_up = true }

-- PREPARE went out
abbrev pub cascaded_commit_asked : Reading
cascaded_commit_asked = record cascaded_commit_took_part { phase = Collecting; sent_prepare = true }

-- the child promised and said YES
abbrev pub cascaded_commit_voted : Reading
cascaded_commit_voted = record cascaded_commit_asked {
  ticket_open = false;
  prepared_kept = true;
  prepared_forced = true;
  prepared_ever = true;
  sent_yes = true;
}

-- the YES was heard
abbrev pub cascaded_commit_heard : Reading
cascaded_commit_heard = record cascaded_commit_voted { first_yes = true }

-- the coordinator promised and said YES
abbrev pub cascaded_commit_promised : Reading
cascaded_commit_promised = record cascaded_commit_heard {
  phase = Closed;
  own_prepare_kept = true;
  own_prepare_forced = true;
  own_prepare_ever = true;
  names = true;
}

-- the root committed
abbrev pub cascaded_commit_committed_above : Reading
cascaded_commit_committed_above = record cascaded_commit_promised { outcome = true }

-- COMMIT came, and goes on to the child
abbrev pub cascaded_commit_passed : Reading
cascaded_commit_passed = record cascaded_commit_committed_above {
  commit_kept = true;
  commit_forced = true;
  owed = true;
  sent_commit = true;
}

-- the child obeyed
abbrev pub cascaded_commit_obeyed : Reading
cascaded_commit_obeyed = record cascaded_commit_passed {
  child_committed = true;
  learnt_commit_kept = true;
  learnt_commit_forced = true;
  sent_ack = true;
}

-- its ACK was heard
abbrev pub cascaded_commit_acked : Reading
cascaded_commit_acked = record cascaded_commit_obeyed { acked = true }

-- End was appended
abbrev pub cascaded_commit_ended : Reading
cascaded_commit_ended = record cascaded_commit_acked { end_kept = true }

-- An aborted run of a cascaded coordinator and another below it: it restarts while it waits for votes, and
-- its child asks.

-- the coordinator gave its ticket, and the case is Active
abbrev pub cascaded_abort_born : Reading
cascaded_abort_born = record (opened false false) { born = true; phase = Active }

-- the child gave a ticket
abbrev pub cascaded_abort_joined : Reading
cascaded_abort_joined = record cascaded_abort_born { issued = true; ticket_open = true }

-- the case accepted it
abbrev pub cascaded_abort_accepted : Reading
cascaded_abort_accepted = record cascaded_abort_joined { accepted = true; took_part = true }

-- the case takes part itself
abbrev pub cascaded_abort_took_part : Reading
cascaded_abort_took_part = record cascaded_abort_accepted { took_part_up = true }

-- PREPARE went out
abbrev pub cascaded_abort_asked : Reading
cascaded_abort_asked = record cascaded_abort_took_part { phase = Collecting; sent_prepare = true }

-- the child promised and said YES
abbrev pub cascaded_abort_voted : Reading
cascaded_abort_voted = record cascaded_abort_asked {
  ticket_open = false;
  prepared_kept = true;
  prepared_forced = true;
  prepared_ever = true;
  sent_yes = true;
}

-- the coordinator restarted while it waited for votes, and has forgotten
abbrev pub cascaded_abort_restarted : Reading
cascaded_abort_restarted = record cascaded_abort_voted { phase = Closed; accepted = false; refused = true }

-- the child asks
abbrev pub cascaded_abort_asked_back : Reading
cascaded_abort_asked_back = record cascaded_abort_restarted { sent_inquire = true }

-- it was answered by ABORT, as presumed
abbrev pub cascaded_abort_answered : Reading
cascaded_abort_answered = record cascaded_abort_asked_back { sent_abort = true }

-- the child obeyed
abbrev pub cascaded_abort_obeyed : Reading
cascaded_abort_obeyed = record cascaded_abort_answered { child_refused = true; learnt_abort_kept = true }
