use Rattle.std.proofs.Common.{◌≡◌, ◌-◌}
use Rattle.cluster_journal.proofs.journal.ClusterJournal.place.Given as goal

abbrev pub invariant-loop : goal.invariant-loop
invariant-loop l = record {
  entries : l.self.entries ≡ l.fn.self.entries;
  late : l.self.late ≡ l.end - l.counter;
}
