-- What only the root does: it begins, and it decides.
use Rattle.std.specs.Prelude.{◌≡◌, true, false, ◌||◌, ◌&&◌}
use Rattle.proof_pairs.specs.Reading.{Reading, Active, Collecting, Closed}
use Rattle.proof_pairs.specs.Standing.{HasVote}

-- A transaction with a fresh number.
pub record MayBegin (r : Reading) : Type 0 where
  pub root : r.parent_is_root ≡ true
  pub fresh : r.born ≡ false
  pub up : r.failed ≡ false

-- The case is open, and takes part.
abbrev pub begins : Reading → Reading
begins r = record r { born = true; phase = Active; took_part_up = true }

-- The commit act found no children: `readonly` is told, and nobody commits.
pub record MayEndEmpty (r : Reading) : Type 0 where
  pub root : r.parent_is_root ≡ true
  pub active : r.phase ≡ Active
  pub empty : r.accepted ≡ false

-- The case is closed, and nobody commits.
abbrev pub ends_empty : Reading → Reading
ends_empty r = record r { phase = Closed; refused = true }

-- Each child voted READ: `readonly` is told, and nobody commits.
pub record MayEndReadOnly (r : Reading) : Type 0 where
  pub root : r.parent_is_root ≡ true
  pub waiting : r.phase ≡ Collecting
  pub all_read : r.accepted ≡ true → r.first_read ≡ true

-- The case is closed, and nobody commits.
abbrev pub ends_read_only : Reading → Reading
ends_read_only r = record r { phase = Closed; refused = true }

-- Presumed Commit: End is written after Collecting.
abbrev pub ends_read_only_collected : Reading → Reading
ends_read_only_collected r = record r { phase = Closed; refused = true; end_kept = true }

-- Each child voted YES or READ, and some voted YES: the root commits.
pub record MayDecide (r : Reading) : Type 0 where
  pub root : r.parent_is_root ≡ true
  pub waiting : r.phase ≡ Collecting
  pub all_voted : HasVote r

-- Presumed Abort: Commit, which names those that voted YES, is forced; then COMMIT goes to each of them.
abbrev pub decides_naming : Reading → Reading
decides_naming r = record r {
  phase = Closed;
  commit_kept = true;
  commit_forced = true;
  owed = r.accepted && r.first_yes;
  outcome = true;
  told_committed = true;
  sent_commit = (r.accepted && r.first_yes) || r.sent_commit;
}

-- Presumed Commit: Commit is forced and names nobody.
abbrev pub decides : Reading → Reading
decides r = record r {
  phase = Closed;
  commit_kept = true;
  commit_forced = true;
  outcome = true;
  told_committed = true;
  sent_commit = (r.accepted && r.first_yes) || r.sent_commit;
}
