use Rattle.std.proofs.Common.{◌≡◌, take}
use Rattle.tree_journal.proofs.short_steps.ShortSteps.entries.Given as goal

abbrev pub invariant-loop-place : goal.invariant-loop-place
invariant-loop-place l = l.entries.items ≡ take l.place l.fn.self.entries
