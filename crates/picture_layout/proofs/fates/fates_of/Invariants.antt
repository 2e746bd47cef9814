use Rattle.std.proofs.Common.{◌≡◌, map, take}
use Rattle.picture_layout.specs.declared.fates.Fate.{Fate}
use Rattle.picture_layout.specs.Fates.{HeardFrom}
use Rattle.picture_layout.specs.Ways.{senders}
use Rattle.picture_layout.proofs.fates.fates_of.Given as goal

abbrev pub invariant-loop-step : goal.invariant-loop-step
invariant-loop-step l = record {
  sent : map (λ (f : Fate). f.sent) l.fates.items ≡ senders (take l.step l.entries);
  heard : HeardFrom 1 (take l.step l.entries) l.fates.items;
}
