use Rattle.std.proofs.Common.{◌≡◌, take}
use Rattle.picture_parts.specs.Cut.{drawn_sent}
use Rattle.picture_parts.proofs.cutting.sent_of.Given as goal

abbrev pub invariant-loop-marked : goal.invariant-loop-marked
invariant-loop-marked l = l.sent.items ≡ drawn_sent l.only (take l.marked-index l.marks)
