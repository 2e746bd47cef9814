use Rattle.std.proofs.Common.{◌≡◌, ◌<◌, All, HoldsAt, IfNone, IfSome, length, take}
use Rattle.cluster_journal.specs.Marks.{IsFree, IsNotFree}
use Rattle.cluster_journal.proofs.queues.fullest.Given as goal

abbrev pub invariant-loop-place : goal.invariant-loop-place
invariant-loop-place l = record {
  best : IfSome l.fullest (λ p. (p < length l.receivers) × HoldsAt IsFree l.receivers p);
  none : IfNone l.fullest ((l.most ≡ 0) × All IsNotFree (take l.place l.receivers));
}
