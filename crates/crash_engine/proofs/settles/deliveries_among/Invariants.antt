use Rattle.std.proofs.Common.{◌≡◌, take}
use Rattle.crash_engine.specs.Settles.{deliveries_in}
use Rattle.crash_engine.proofs.settles.deliveries_among.Given as goal

abbrev pub invariant-loop-entry : goal.invariant-loop-entry
invariant-loop-entry l = l.events.items ≡ deliveries_in (take l.entry-index l.steps)
