use Rattle.crash_engine.specs.Trials.{GoesThrough, known_by}
use Rattle.crash_engine.proofs.engine.try_events.Given as goal

abbrev pub invariant-loop-made : goal.invariant-loop-made
invariant-loop-made g l = GoesThrough l.origin (known_by l.known) l.events l.made l.trials.items
