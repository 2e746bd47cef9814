use Rattle.test_clusters.proofs.works.works_keep_their_order.Given as goal

abbrev pub ghosts-commit_by : goal.ghosts-commit_by
ghosts-commit_by g a = record {
  table = a.opened.ties.shared.table_id;
  tree = a.tree;
  callers = a.workers;
}
