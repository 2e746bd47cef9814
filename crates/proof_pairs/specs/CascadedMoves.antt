-- What a cascaded coordinator does as a parent, because of what its own parent told it; and what becomes
-- true above it.
use Rattle.std.specs.Prelude.{◌≡◌, true, false, ◌||◌, ◌&&◌}
use Rattle.proof_pairs.specs.Reading.{Reading, Active, Collecting, Closed}
use Rattle.proof_pairs.specs.Standing.{HasVote, Waits, Consents}

-- JOIN made the case.
pub record MayBeBorn (r : Reading) : Type 0 where
  pub cascaded : r.parent_is_root ≡ false
  pub fresh : r.born ≡ false
  pub up : r.failed ≡ false

-- the child gave a ticket for the case, which is Active now
abbrev pub is_born : Reading → Reading
is_born r = record r { born = true; phase = Active }

-- A case above that takes part accepted this one, or accepted one above it. The pair above knows: a case
-- that accepts is
-- Active, and so its transaction is not committed.
pub record MayTakePart (r : Reading) : Type 0 where
  pub cascaded : r.parent_is_root ≡ false
  pub known : r.born ≡ true
  pub undecided_above : r.outcome ≡ false

-- a case that takes part accepted the parent's ticket
abbrev pub takes_part : Reading → Reading
takes_part r = record r { took_part_up = true }

-- The root decided commit. The chain of the pairs above says: if this case takes part, it has consented.
pub record MayCommitAbove (r : Reading) : Type 0 where
  pub cascaded : r.parent_is_root ≡ false
  pub consented : r.took_part_up ≡ true → (r.refused ≡ false) × Consents r

-- the root committed the transaction
abbrev pub commits_above : Reading → Reading
commits_above r = record r { outcome = true }

-- PREPARE found no children: READ goes up.
pub record MayReadEmpty (r : Reading) : Type 0 where
  pub cascaded : r.parent_is_root ≡ false
  pub active : r.phase ≡ Active
  pub takes_part : r.took_part_up ≡ true
  pub empty : r.accepted ≡ false

-- nobody takes part below: READ goes up, and the case is over
abbrev pub reads_empty : Reading → Reading
reads_empty r = record r { phase = Closed; read_up = true }

-- Each child voted READ: READ goes up.
pub record MayReadUp (r : Reading) : Type 0 where
  pub cascaded : r.parent_is_root ≡ false
  pub waiting : r.phase ≡ Collecting
  pub takes_part : r.took_part_up ≡ true
  pub all_read : r.accepted ≡ true → r.first_read ≡ true

-- all below said READ: READ goes up, and the case is over
abbrev pub reads_up : Reading → Reading
reads_up r = record r { phase = Closed; read_up = true }

-- Presumed Commit: End is written after Collecting.
abbrev pub reads_up_collected : Reading → Reading
reads_up_collected r = record r { phase = Closed; read_up = true; end_kept = true }

-- Each child voted YES or READ, and some voted YES: Prepare, which names those, is forced; then YES goes
-- up.
pub record MayPromise (r : Reading) : Type 0 where
  pub cascaded : r.parent_is_root ≡ false
  pub waiting : r.phase ≡ Collecting
  pub takes_part : r.took_part_up ≡ true
  pub all_voted : HasVote r

-- the forced Prepare names the child where it said YES, and YES goes up
abbrev pub promises : Reading → Reading
promises r = record r {
  phase = Closed;
  own_prepare_kept = true;
  own_prepare_forced = true;
  own_prepare_ever = true;
  names = r.accepted && r.first_yes;
}

-- COMMIT found the case Prepared. True answers of the pair above: the outcome is commit.
pub record MayPassCommit (r : Reading) : Type 0 where
  pub cascaded : r.parent_is_root ≡ false
  pub up : r.failed ≡ false
  pub waits : Waits r
  pub answer_is_true : r.outcome ≡ true

-- Presumed Abort: Commit, which names whom Prepare named, is forced; COMMIT goes to each.
abbrev pub passes_commit_forced : Reading → Reading
passes_commit_forced r = record r {
  commit_kept = true;
  commit_forced = true;
  owed = r.names;
  sent_commit = r.names || r.sent_commit;
}

-- Presumed Commit: Commit is written unforced; COMMIT goes to each; the case is forgotten.
abbrev pub passes_commit : Reading → Reading
passes_commit r = record r { commit_kept = true; sent_commit = r.names || r.sent_commit }

-- ABORT found the case Prepared. True answers of the pair above: the outcome is not commit, and never will
-- be.
pub record MayPassAbort (r : Reading) : Type 0 where
  pub cascaded : r.parent_is_root ≡ false
  pub up : r.failed ≡ false
  pub waits : Waits r
  pub answer_is_true : r.outcome ≡ false

-- Presumed Abort: Abort is written unforced; ABORT goes to each; the case is forgotten.
abbrev pub passes_abort : Reading → Reading
passes_abort r = record r { refused = true; abort_kept = true; sent_abort = r.names || r.sent_abort }

-- Presumed Commit: Abort, which names whom Prepare named, is forced; ABORT goes to each.
abbrev pub passes_abort_forced : Reading → Reading
passes_abort_forced r = record r {
  refused = true;
  abort_kept = true;
  owed = r.names;
  sent_abort = r.names || r.sent_abort;
}
