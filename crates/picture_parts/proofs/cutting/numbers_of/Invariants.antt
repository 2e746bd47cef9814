use Rattle.std.proofs.Common.{◌≡◌, take}
use Rattle.picture_parts.specs.Cut.{numbered_by}
use Rattle.picture_parts.proofs.cutting.numbers_of.Given as goal

abbrev pub invariant-loop-flag : goal.invariant-loop-flag
invariant-loop-flag l =
    ((numbered_by (take l.flag-index l.sent)).drawn ≡ l.drawn)
    × ((numbered_by (take l.flag-index l.sent)).numbers ≡ l.numbers.items)
