use Rattle.std.proofs.Common.{◌≡◌, map, take}
use Rattle.picture_layout.specs.declared.drawn.RecordMark.{RecordMark}
use Rattle.picture_layout.specs.Ways.{spot_of, spots_in}
use Rattle.picture_layout.specs.Whole.{records_in}
use Rattle.picture_layout.proofs.drawn.marks.Given as goal

abbrev pub invariant-loop-step : goal.invariant-loop-step
invariant-loop-step l = record {
  logged : map (λ (m : RecordMark). m.logged) l.marks.items ≡ records_in (take l.step l.entries);
  spots : map spot_of l.marks.items ≡ spots_in l.seats l.rows (take l.step l.entries);
}
