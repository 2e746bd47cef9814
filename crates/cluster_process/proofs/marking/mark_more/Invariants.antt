use Rattle.std.proofs.Common.{◌≤◌, length}
use Rattle.tree_state.specs.Cuts.{net_of}
use Rattle.cluster_ties.specs.Views.{entries_in}
use Rattle.cluster_process.proofs.Turning.{NextSoFar}
use Rattle.cluster_process.proofs.marking.mark_more.Given as goal

abbrev pub invariant-loop : goal.invariant-loop
invariant-loop g l = record {
  far : NextSoFar (net_of (entries_in l.ledger.entries)) l.me l.ledger.marks l.number l.more l.last;
  few : length l.more ≤ l.counter;
}
