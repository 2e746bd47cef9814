use Rattle.std.proofs.Common.{◌≡◌, take}
use Rattle.picture_parts.specs.Cut.{drawn_by}
use Rattle.picture_parts.specs.Tails.{AreTails}
use Rattle.picture_parts.proofs.cutting.drawn_from.Given as goal

abbrev pub invariant-loop-marked : goal.invariant-loop-marked
invariant-loop-marked l =
    record {
      before : (drawn_by l.only l.numbers.items (take l.marked-index l.marks)).before
          ≡ take l.marked-index l.marks;
      entries : (drawn_by l.only l.numbers.items (take l.marked-index l.marks)).entries ≡ l.drawn.items;
      tails : AreTails l.only (take l.marked-index l.marks) l.tails.tails.entries;
    }
