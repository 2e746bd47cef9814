use Rattle.crash_engine.specs.Trials.{GoesDown, known_by}
use Rattle.crash_engine.proofs.trials.try_within.Given as goal

abbrev pub invariant-loop-made : goal.invariant-loop-made
invariant-loop-made l =
    GoesDown l.origin (known_by l.known) l.number l.events l.deliveries l.made
    l.initial.trials.items l.trials.items
