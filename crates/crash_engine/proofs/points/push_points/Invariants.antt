use Rattle.std.proofs.Common.{◌≡◌, ◌++◌, drop, map, take}
use Rattle.std.specs.Prelude.{sum}
use Rattle.crash_engine.specs.Points.{bounds, point_at, points_at}
use Rattle.crash_engine.proofs.points.push_points.Given as goal

abbrev pub invariant-loop-size : goal.invariant-loop-size
invariant-loop-size l = record {
  points : l.points.items ++ map (point_at l.process) (bounds l.keep (drop l.size-index l.sizes))
      ≡ l.initial.points.items ++ points_at l.process l.sizes;
  size : l.keep ≡ sum (take l.size-index l.sizes);
}
