use Rattle.std.proofs.Common.{◌≡◌, ◌≤◌}
use Rattle.picture_layout.specs.Rising.{ForEach, RiseTo}
use Rattle.picture_layout.specs.Long.{rows_with}
use Rattle.picture_layout.proofs.rows.event_rows.Given as goal

abbrev pub invariant-loop : goal.invariant-loop
invariant-loop l = record {
  rise : RiseTo 1 l.initial.rows.steps.items l.initial.count.row → RiseTo 1 l.rows.steps.items l.count.row;
  each : ForEach l.initial.steps l.initial.rows.steps.items → ForEach l.steps l.rows.steps.items;
  same : l.steps.entries ≡ l.initial.steps.entries;
  few : rows_with l.count l.steps ≤ rows_with l.initial.count l.initial.steps;
}
