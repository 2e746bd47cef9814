use Rattle.std.proofs.Common.{◌≡◌, ◌+◌, ◌++◌}
use Rattle.std.specs.Vec.{vec_capacity, vec_len}
use Rattle.cluster_journal.specs.Spots.{spots_at}
use Rattle.cluster_journal.proofs.spots.add_spots.Given as goal

abbrev pub invariant-loop-message : goal.invariant-loop-message
invariant-loop-message l = record {
  items : l.spots.items ≡ l.initial.spots.items ++ spots_at l.turn l.entry l.message;
  len : vec_len l.spots ≡ vec_len l.initial.spots + l.message;
  capacity : vec_capacity l.spots ≡ vec_capacity l.initial.spots;
}
