use Rattle.test_clusters.proofs.restarts.restarts_under_way.Given as goal

abbrev pub ghosts-restart_under_way : goal.ghosts-restart_under_way
ghosts-restart_under_way g a = record {
  table = a.opened.ties.shared.table_id;
  tree = a.tree;
  callers = 5;
}
