use Rattle.std.proofs.Common.{◌≡◌, take}
use Rattle.std.specs.Prelude.{filter}
use Rattle.picture_parts.specs.Cut.{message_stays}
use Rattle.picture_parts.proofs.cutting.messages_of.Given as goal

abbrev pub invariant-loop-envelope : goal.invariant-loop-envelope
invariant-loop-envelope l = l.stay.items ≡ filter (message_stays l.only) (take l.envelope-index l.messages)
