use Rattle.std.proofs.Common.{◌≡◌, length, map, take}
use Rattle.picture_layout.specs.declared.drawn.Arrow.{Arrow}
use Rattle.picture_layout.specs.declared.fates.Fate.{Fate}
use Rattle.picture_layout.specs.Ways.{ways_of}
use Rattle.picture_layout.specs.Whole.{deliveries}
use Rattle.picture_layout.proofs.drawn.arrows.Given as goal

abbrev pub invariant-loop-step : goal.invariant-loop-step
invariant-loop-step l = record {
  numbers : map (λ (a : Arrow). a.number) l.arrows.items
      ≡ deliveries (length l.fates) (take l.step l.entries);
  ways : map (λ (a : Arrow). a.way) l.arrows.items
      ≡ ways_of l.seats l.rows (map (λ (f : Fate). f.sent) l.fates) l.entries (take l.step l.entries);
}
