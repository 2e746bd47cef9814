-- What a plan says of a run, by rows and places.
use Rattle.std.specs.Prelude.{◌≡◌, List, length, map}
use Rattle.protocol.specs.declared.events.JournalEntry.{JournalEntry}
use Rattle.picture_layout.specs.declared.drawn.Arrow.{Arrow}
use Rattle.picture_layout.specs.declared.fates.Fate.{Fate}
use Rattle.picture_layout.specs.Fates.{AreFates, leaving_in, leavings}
use Rattle.picture_layout.specs.Rising.{RiseTo}
use Rattle.picture_layout.specs.Ways.{SitFrom, senders, spot_of, spots_in, ways_in}
use Rattle.picture_run.specs.declared.plan.Plan.{Plan}

-- the seats are side by side, the rows of the steps one below the other, and each arrow goes from the step
-- that sent its message to the step that it made, each mark is at its step, and just the messages that are
-- drawn where they were sent have a stub
pub record IsPlaced (entries : List JournalEntry) (p : Plan) : Type 0 where
  pub in_order : SitFrom 0 p.seats.items
  pub rise : RiseTo 1 p.rows.steps.items p.rows.end
  pub each : length p.rows.steps.items ≡ length entries
  pub ways : map (λ (a : Arrow). a.way) p.arrows.items
      ≡ ways_in p.seats.items p.rows.steps.items (senders entries) entries
  pub fates : List Fate
  pub fated : AreFates entries fates
  pub apart : map leaving_in p.stubs.items ≡ leavings p.seats.items p.rows.steps.items entries fates
  pub spots : map spot_of p.marks.items ≡ spots_in p.seats.items p.rows.steps.items entries
