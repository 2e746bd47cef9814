use Rattle.std.proofs.Common.{take}
use Rattle.crash_engine.specs.Trials.{AddsTrials, known_by}
use Rattle.crash_engine.proofs.trials.try_points.Given as goal

abbrev pub invariant-loop-point : goal.invariant-loop-point
invariant-loop-point l = AddsTrials l.origin (known_by l.known) l.place l.events (take l.point-index l.points)
    l.initial.trials.items l.trials.items
