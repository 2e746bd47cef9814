-- Readings at the stages of whole runs, under Presumed Commit: each says what changed since the one before.
use Rattle.std.specs.Prelude.{true, false}
use Rattle.proof_pairs.specs.Reading.{Reading, Active, Collecting, Closed}
use Rattle.proof_pairs.specs.Opened.{opened}

-- A committed run of a root and a manager; the manager loses its record of the commit, asks, and gets the
-- presumption.

-- the root began the transaction
abbrev pub flat_commit_begun : Reading
flat_commit_begun = record (opened true true) { born = true; phase = Active; took_part_up = true }

-- the child gave a ticket
abbrev pub flat_commit_joined : Reading
flat_commit_joined = record flat_commit_begun { issued = true; ticket_open = true }

-- the case accepted it
abbrev pub flat_commit_accepted : Reading
flat_commit_accepted = record flat_commit_joined { accepted = true; took_part = true }

-- Collecting is forced, and PREPARE went out
abbrev pub flat_commit_asked : Reading
flat_commit_asked = record flat_commit_accepted {
  phase = Collecting;
  collecting_kept = true;
  collecting_forced = true;
  collects = true;
  sent_prepare = true;
}

-- the child promised and said YES
abbrev pub flat_commit_voted : Reading
flat_commit_voted = record flat_commit_asked {
  ticket_open = false;
  prepared_kept = true;
  prepared_forced = true;
  prepared_ever = true;
  sent_yes = true;
}

-- the YES was heard
abbrev pub flat_commit_heard : Reading
flat_commit_heard = record flat_commit_voted { first_yes = true }

-- the root committed
abbrev pub flat_commit_decided : Reading
flat_commit_decided = record flat_commit_heard {
  outcome = true;
  phase = Closed;
  told_committed = true;
  commit_kept = true;
  commit_forced = true;
  sent_commit = true;
}

-- a trim took the root's records
abbrev pub flat_commit_trimmed : Reading
flat_commit_trimmed = record flat_commit_decided {
  collecting_kept = false;
  collecting_forced = false;
  commit_kept = false;
  commit_forced = false;
  collects = false;
}

-- the child obeyed
abbrev pub flat_commit_obeyed : Reading
flat_commit_obeyed = record flat_commit_trimmed { child_committed = true; learnt_commit_kept = true }

-- the child lost its record of the commit and asks
abbrev pub flat_commit_restarted : Reading
flat_commit_restarted = record flat_commit_obeyed { learnt_commit_kept = false; sent_inquire = true }

-- it was answered by what is presumed
abbrev pub flat_commit_answered : Reading
flat_commit_answered = record flat_commit_restarted {}

-- it obeyed again
abbrev pub flat_commit_obeyed_again : Reading
flat_commit_obeyed_again = record flat_commit_answered { learnt_commit_kept = true }

-- An aborted run: the root restarts while it waits for votes.

-- the root restarted while it waited for votes: it aborts all that it named
abbrev pub flat_abort_restarted : Reading
flat_abort_restarted = record flat_commit_voted {
  phase = Closed;
  accepted = false;
  refused = true;
  abort_kept = true;
  owed = true;
  sent_abort = true;
}

-- the child obeyed
abbrev pub flat_abort_obeyed : Reading
flat_abort_obeyed = record flat_abort_restarted {
  child_refused = true;
  learnt_abort_kept = true;
  learnt_abort_forced = true;
  sent_ack = true;
}

-- its ACK was heard
abbrev pub flat_abort_acked : Reading
flat_abort_acked = record flat_abort_obeyed { acked = true }

-- End was appended
abbrev pub flat_abort_ended : Reading
flat_abort_ended = record flat_abort_acked { end_kept = true }

-- a trim took the root's records
abbrev pub flat_abort_trimmed : Reading
flat_abort_trimmed = record flat_abort_ended {
  collecting_kept = false;
  collecting_forced = false;
  abort_kept = false;
  end_kept = false;
  collects = false;
  owed = false;
}

-- A committed run of a cascaded coordinator and a manager below it.

-- the coordinator gave its ticket, and the case is Active
abbrev pub cascaded_commit_born : Reading
cascaded_commit_born = record (opened false true) { born = true; phase = Active }

-- the child gave a ticket
abbrev pub cascaded_commit_joined : Reading
cascaded_commit_joined = record cascaded_commit_born { issued = true; ticket_open = true }

-- the case accepted it
abbrev pub cascaded_commit_accepted : Reading
cascaded_commit_accepted = record cascaded_commit_joined { accepted = true; took_part = true }

-- the case takes part itself
abbrev pub cascaded_commit_took_part : Reading
cascaded_commit_took_part = record cascaded_commit_accepted { took_part_up = true }

-- Collecting is forced, and PREPARE went out
abbrev pub cascaded_commit_asked : Reading
cascaded_commit_asked = record cascaded_commit_took_part {
  phase = Collecting;
  collecting_kept = true;
  collecting_forced = true;
  collects = true;
  sent_prepare = true;
}

-- the child promised and said YES
abbrev pub cascaded_commit_voted : Reading
cascaded_commit_voted = record cascaded_commit_asked {
  ticket_open = false;
  prepared_kept = true;
  prepared_forced = true;
  prepared_ever = true;
  sent_yes = true;
}

-- the YES was heard
abbrev pub cascaded_commit_heard : Reading
cascaded_commit_heard = record cascaded_commit_voted { first_yes = true }

-- the coordinator promised and said YES
abbrev pub cascaded_commit_promised : Reading
cascaded_commit_promised = record cascaded_commit_heard {
  phase = Closed;
  own_prepare_kept = true;
  own_prepare_forced = true;
  own_prepare_ever = true;
  names = true;
}

-- the root committed
abbrev pub cascaded_commit_committed_above : Reading
cascaded_commit_committed_above = record cascaded_commit_promised { outcome = true }

-- COMMIT came, and goes on to the child
abbrev pub cascaded_commit_passed : Reading
cascaded_commit_passed = record cascaded_commit_committed_above { commit_kept = true; sent_commit = true }

-- the child obeyed
abbrev pub cascaded_commit_obeyed : Reading
cascaded_commit_obeyed = record cascaded_commit_passed { child_committed = true; learnt_commit_kept = true }

-- An aborted run of a cascaded coordinator and a manager below it.

-- ABORT came, and goes on to the child
abbrev pub cascaded_abort_passed : Reading
cascaded_abort_passed = record cascaded_commit_promised {
  refused = true;
  abort_kept = true;
  owed = true;
  sent_abort = true;
}

-- the child obeyed
abbrev pub cascaded_abort_obeyed : Reading
cascaded_abort_obeyed = record cascaded_abort_passed {
  child_refused = true;
  learnt_abort_kept = true;
  learnt_abort_forced = true;
  sent_ack = true;
}

-- its ACK was heard
abbrev pub cascaded_abort_acked : Reading
cascaded_abort_acked = record cascaded_abort_obeyed { acked = true }

-- End was appended
abbrev pub cascaded_abort_ended : Reading
cascaded_abort_ended = record cascaded_abort_acked { end_kept = true }

-- A cascaded coordinator whose one child voted READ loses its End at a restart, and aborts although the
-- transaction may commit.

-- the child said READ
abbrev pub read_only_read : Reading
read_only_read = record cascaded_commit_asked { ticket_open = false; sent_read = true }

-- the READ was heard
abbrev pub read_only_heard : Reading
read_only_heard = record read_only_read { first_read = true }

-- READ went up
abbrev pub read_only_read_up : Reading
read_only_read_up = record read_only_heard { phase = Closed; read_up = true; end_kept = true }

-- the coordinator restarted without its End, and aborts
abbrev pub read_only_restarted : Reading
read_only_restarted = record read_only_read_up {
  accepted = false;
  abort_kept = true;
  end_kept = false;
  owed = true;
  sent_abort = true;
}

-- the root committed
abbrev pub read_only_committed_above : Reading
read_only_committed_above = record read_only_restarted { outcome = true }
