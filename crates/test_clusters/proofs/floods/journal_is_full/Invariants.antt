use Rattle.test_clusters.proofs.floods.journal_is_full.Given as goal

abbrev pub ghosts-fill : goal.ghosts-fill
ghosts-fill g a = record {
  table = a.opened.ties.shared.table_id;
  tree = a.tree;
  callers = 1;
}
