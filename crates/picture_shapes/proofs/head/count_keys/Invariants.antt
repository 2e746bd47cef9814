use Rattle.std.proofs.Common.{◌≡◌, ◌≤◌, length}
use Rattle.picture_shapes.proofs.Keys.{first}
use Rattle.picture_shapes.proofs.head.count_keys.Given as goal

abbrev pub invariant-loop-sign : goal.invariant-loop-sign
invariant-loop-sign l = record {
  counted : l.count ≡ length (first l.signs l.keys l.sign-index);
  few : l.count ≤ l.sign-index;
}
