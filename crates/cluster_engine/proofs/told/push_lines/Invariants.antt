use Rattle.std.proofs.Common.{◌≡◌, ◌++◌, take}
use Rattle.cluster_engine.specs.Told.{told_text}
use Rattle.cluster_engine.proofs.told.push_lines.Given as goal

abbrev pub invariant-loop-line : goal.invariant-loop-line
invariant-loop-line l = l.out.items ≡ l.fn.out.items ++ told_text l.told (take l.line-index l.places)
