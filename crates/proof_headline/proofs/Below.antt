-- The two readings of one coordinator's case, in one world.
use Rattle.std.proofs.Common.{◌≡◌, Bool, true, false, ◌&&◌, refl}
use Rattle.proof_pairs.specs.Chain.{IsBelow}
use Rattle.proof_pairs.specs.readings.ReadingOf.{reading_from, ParentHalf, ChildHalf, Wire, is_participant, is_born}
use Rattle.proof_processes.proofs.ChildOf.{child_of}

pub is_below : (root manager outcome above part committed aborts : Bool) (up p : ParentHalf) (k : ChildHalf)
    (v0 v : Wire)
    → v0.issued ≡ true → v.given ≡ true → v.read_up ≡ v0.read
    → part ≡ (up.took_part && is_participant root (is_born root up.begun v0.given) above)
    → IsBelow (reading_from root false outcome above up (child_of p committed aborts) v0)
    (reading_from false manager outcome part p k v)
is_below root manager outcome above part committed aborts up p k v0 v issued given read takes = record {
  coordinator = refl;
  cascaded = refl;
  outcome = refl;
  failed = refl;
  born = rw (issued, given) refl;
  live = rw issued refl;
  takes_part = takes;
  refused = rw (issued, given, read) refl;
  read = read;
  promise_kept = refl;
  promise_forced = refl;
  promise_ever = refl;
  commit_kept = refl;
  commit_forced = refl;
  abort_kept = refl;
  no_heuristic = refl;
  no_forgot = refl;
}
