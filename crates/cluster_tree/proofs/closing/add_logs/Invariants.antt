use Rattle.std.proofs.Common.{◌≡◌, map, take}
use Rattle.cluster_ties.specs.Views.{entries_in}
use Rattle.cluster_tree.specs.Closing.{LeaveLogs}
use Rattle.cluster_tree.proofs.closing.add_logs.Given as goal

abbrev pub invariant-loop-place : goal.invariant-loop-place
invariant-loop-place g l = record {
  ledger : l.ledger ≡ l.fn.ledger;
  logs : LeaveLogs g.N.Seats.tree (entries_in l.fn.ledger.entries) (take l.place l.tree)
      (map (λ log. log.items) l.logs.items);
}
