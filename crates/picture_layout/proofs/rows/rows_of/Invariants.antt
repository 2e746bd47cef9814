use Rattle.std.proofs.Common.{◌≡◌, ◌≤◌, length}
use Rattle.picture_layout.specs.Rising.{ForEach, RiseTo}
use Rattle.picture_layout.specs.Long.{most_rows, rows_with}
use Rattle.picture_layout.proofs.rows.rows_of.Given as goal

abbrev pub invariant-loop-event : goal.invariant-loop-event
invariant-loop-event l = record {
  rise : RiseTo 1 l.rows.steps.items l.count.row;
  each : ForEach l.steps l.rows.steps.items;
  same : l.steps.entries.now ≡ l.entries;
  few : rows_with l.count l.steps ≤ most_rows l.event l.entries;
}

abbrev pub invariant-loop : goal.invariant-loop
invariant-loop l = record {
  rise : RiseTo 1 l.rows.steps.items l.count.row;
  each : ForEach l.steps l.rows.steps.items;
  same : l.steps.entries.now ≡ l.entries;
  made : l.steps.made ≡ l.counter;
  few : rows_with l.count l.steps ≤ most_rows (length l.turns) l.entries;
}
