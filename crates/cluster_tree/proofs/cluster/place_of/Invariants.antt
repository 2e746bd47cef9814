use Rattle.std.proofs.Common.{◌≡◌, false, take}
use Rattle.protocol.specs.Nodes.{is_listed}
use Rattle.cluster_tree.proofs.cluster.place_of.Given as goal

abbrev pub invariant-loop-place : goal.invariant-loop-place
invariant-loop-place l = is_listed (take l.place l.entries) l.process ≡ false
