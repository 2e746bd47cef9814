use Rattle.std.proofs.Common.{◌≡◌, ◌≤◌, ◌++◌, length}
use Rattle.picture_shapes.specs.Head.{keys_text}
use Rattle.picture_shapes.proofs.Keys.{first}
use Rattle.picture_shapes.proofs.head.push_keys.Given as goal

abbrev pub invariant-loop-sign : goal.invariant-loop-sign
invariant-loop-sign l = record {
  text : l.out.items ≡ l.initial.out.items ++ keys_text l.frame 0 (first l.signs l.keys l.sign-index);
  counted : l.entry ≡ length (first l.signs l.keys l.sign-index);
  few : l.entry ≤ l.sign-index;
}
