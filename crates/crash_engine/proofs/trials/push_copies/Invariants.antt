use Rattle.std.proofs.Common.{◌≡◌, ◌++◌, take}
use Rattle.crash_engine.proofs.trials.push_copies.Given as goal

abbrev pub invariant-loop-event : goal.invariant-loop-event
invariant-loop-event l = l.all.items ≡ l.initial.all.items ++ take l.event-index l.events
