-- What it means that a move keeps the invariant.
use Rattle.std.specs.Prelude.{◌≡◌, true}
use Rattle.proof_pairs.specs.Reading.{Reading}

-- What was once true of a pair and is true for ever: the outcome, who took part, who ended how, what was
-- promised, what was heard and what was said.
pub record Later (old new : Reading) : Type 0 where
  pub outcome : old.outcome ≡ true → new.outcome ≡ true
  pub born : old.born ≡ true → new.born ≡ true
  pub took_part : old.took_part ≡ true → new.took_part ≡ true
  pub took_part_up : old.took_part_up ≡ true → new.took_part_up ≡ true
  pub first_yes : old.first_yes ≡ true → new.first_yes ≡ true
  pub first_no : old.first_no ≡ true → new.first_no ≡ true
  pub first_read : old.first_read ≡ true → new.first_read ≡ true
  pub told_committed : old.told_committed ≡ true → new.told_committed ≡ true
  pub told_aborted : old.told_aborted ≡ true → new.told_aborted ≡ true
  pub refused : old.refused ≡ true → new.refused ≡ true
  pub read_up : old.read_up ≡ true → new.read_up ≡ true
  pub own_prepare_ever : old.own_prepare_ever ≡ true → new.own_prepare_ever ≡ true
  pub issued : old.issued ≡ true → new.issued ≡ true
  pub child_refused : old.child_refused ≡ true → new.child_refused ≡ true
  pub child_committed : old.child_committed ≡ true → new.child_committed ≡ true
  pub prepared_ever : old.prepared_ever ≡ true → new.prepared_ever ≡ true
  pub heuristic_ever : old.heuristic_ever ≡ true → new.heuristic_ever ≡ true
  pub heuristic_commits : old.heuristic_ever ≡ true → new.heuristic_commits ≡ old.heuristic_commits
  pub forgot_ever : old.forgot_ever ≡ true → new.forgot_ever ≡ true
  pub sent_prepare : old.sent_prepare ≡ true → new.sent_prepare ≡ true
  pub sent_yes : old.sent_yes ≡ true → new.sent_yes ≡ true
  pub sent_no : old.sent_no ≡ true → new.sent_no ≡ true
  pub sent_read : old.sent_read ≡ true → new.sent_read ≡ true
  pub sent_commit : old.sent_commit ≡ true → new.sent_commit ≡ true
  pub sent_abort : old.sent_abort ≡ true → new.sent_abort ≡ true
  pub sent_ack : old.sent_ack ≡ true → new.sent_ack ≡ true
  pub sent_inquire : old.sent_inquire ≡ true → new.sent_inquire ≡ true

-- The invariant holds of the new reading, and what was true for ever still is.
pub record FollowsReading (Inv : Reading → Type 0) (old new : Reading) : Type 0 where
  pub invariant : Inv new
  pub later : Later old new

-- A move keeps the invariant wherever its guard holds.
abbrev pub KeepsInvariant : (Reading → Type 0) → (Reading → Type 0) → (Reading → Reading) → Type 0
KeepsInvariant Inv May move = (r : Reading) → Inv r → May r → FollowsReading Inv r (move r)

-- What is later than now: now, and what is later than a later world.
pub record Lateness : Type 0 where
  pub now : (r : Reading) → Later r r
  pub onward : (r s t : Reading) → Later r s → Later s t → Later r t
