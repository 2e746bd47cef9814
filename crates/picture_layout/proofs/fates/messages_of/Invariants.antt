use Rattle.std.proofs.Common.{◌≡◌, take}
use Rattle.picture_layout.specs.Whole.{sent_in}
use Rattle.picture_layout.proofs.fates.messages_of.Given as goal

abbrev pub invariant-loop-entry : goal.invariant-loop-entry
invariant-loop-entry l = l.messages.items ≡ sent_in (take l.entry-index l.entries)
