use Rattle.cluster_engine.proofs.engine.run_script.Given as goal

abbrev pub ghosts-run_seated : goal.ghosts-run_seated
ghosts-run_seated g a = record {
  table = a.opened.ties.shared.table_id;
  tree = a.tree;
  callers = a.workers;
}
