use Rattle.test_clusters.proofs.callers.ok_is_in_the_journal.Given as goal

abbrev pub ghosts-begin_at_once : goal.ghosts-begin_at_once
ghosts-begin_at_once g a = record {
  table = a.opened.ties.shared.table_id;
  tree = a.tree;
  callers = 4;
}
