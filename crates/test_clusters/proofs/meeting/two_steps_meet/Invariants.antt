use Rattle.test_clusters.proofs.meeting.two_steps_meet.Given as goal

abbrev pub ghosts-meet : goal.ghosts-meet
ghosts-meet g a = record {
  table = a.opened.ties.shared.table_id;
  tree = a.tree;
  callers = a.workers;
}
