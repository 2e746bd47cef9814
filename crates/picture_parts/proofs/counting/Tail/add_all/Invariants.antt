use Rattle.std.proofs.Common.{◌≡◌, take}
use Rattle.picture_parts.specs.Cut.{with_records}
use Rattle.picture_parts.specs.Tails.{seen}
use Rattle.picture_parts.proofs.counting.Tail.add_all.Given as goal

abbrev pub invariant-loop-logged : goal.invariant-loop-logged
invariant-loop-logged l =
    seen l.self ≡ with_records l.only l.shown (seen l.initial.self) (take l.logged-index l.written)
