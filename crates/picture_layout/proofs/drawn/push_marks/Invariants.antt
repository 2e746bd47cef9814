use Rattle.std.proofs.Common.{◌≡◌, ◌++◌, drop, map, take}
use Rattle.picture_layout.specs.declared.drawn.RecordMark.{RecordMark}
use Rattle.picture_layout.specs.Ways.{spot_of, spots_from}
use Rattle.picture_layout.proofs.drawn.push_marks.Given as goal

abbrev pub invariant-loop-logged : goal.invariant-loop-logged
invariant-loop-logged l = record {
  logged : map (λ (m : RecordMark). m.logged) l.marks.items
      ≡ map (λ (m : RecordMark). m.logged) l.initial.marks.items ++ take l.logged-index l.written;
  spots : map spot_of l.marks.items ++ spots_from l.place l.row (drop l.logged-index l.written)
      ≡ map spot_of l.initial.marks.items ++ spots_from l.place l.initial.row l.written;
}
