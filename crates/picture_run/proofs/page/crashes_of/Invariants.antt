use Rattle.std.proofs.Common.{◌≡◌, ◌≤◌, take}
use Rattle.picture_run.specs.Sums.{crashes_in}
use Rattle.picture_run.proofs.page.crashes_of.Given as goal

abbrev pub invariant-loop-entry : goal.invariant-loop-entry
invariant-loop-entry l = record {
  counted : l.crashes ≡ crashes_in (take l.entry-index l.entries);
  few : l.crashes ≤ l.entry-index;
}
