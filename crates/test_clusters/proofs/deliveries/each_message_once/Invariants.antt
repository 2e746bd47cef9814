use Rattle.test_clusters.proofs.deliveries.each_message_once.Given as goal

abbrev pub ghosts-deliver_all : goal.ghosts-deliver_all
ghosts-deliver_all g a = record {
  table = a.opened.ties.shared.table_id;
  tree = a.tree;
  callers = a.workers;
}
