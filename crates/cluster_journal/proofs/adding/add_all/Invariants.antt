use Rattle.std.proofs.Common.{◌≡◌, ◌-◌, ◌≤◌, ◌++◌, length, map, take}
use Rattle.indexmap.specs.IndexSet.{spare}
use Rattle.cluster_journal.specs.Marks.{AreQueued, HasRoom, processes_of, sent_to}
use Rattle.cluster_journal.proofs.adding.add_all.Given as goal

abbrev pub invariant-loop-place : goal.invariant-loop-place
invariant-loop-place l = record {
  queued : AreQueued l.marks.items l.queues;
  named : l.names.keys ≡ processes_of l.queues.receivers.items;
  items : l.marks.items ≡ l.initial.marks.items ++ map sent_to (take l.place l.messages);
  room : HasRoom l.marks l.queues (length l.messages - l.place);
  spare : length l.messages - l.place ≤ spare l.names;
}
