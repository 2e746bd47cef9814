-- What is true for ever is true for ever.
use Rattle.std.proofs.Common.{refl, ◌∙◌}
use Rattle.proof_pairs.specs.Reading.{Reading}
use Rattle.proof_pairs.specs.Keeps.{Later, Lateness}

pub later-later : (r s t : Reading) → Later r s → Later s t → Later r t
later-later r s t h g = record {
  outcome = λ e. g.outcome (h.outcome e);
  born = λ e. g.born (h.born e);
  took_part = λ e. g.took_part (h.took_part e);
  took_part_up = λ e. g.took_part_up (h.took_part_up e);
  first_yes = λ e. g.first_yes (h.first_yes e);
  first_no = λ e. g.first_no (h.first_no e);
  first_read = λ e. g.first_read (h.first_read e);
  told_committed = λ e. g.told_committed (h.told_committed e);
  told_aborted = λ e. g.told_aborted (h.told_aborted e);
  refused = λ e. g.refused (h.refused e);
  read_up = λ e. g.read_up (h.read_up e);
  own_prepare_ever = λ e. g.own_prepare_ever (h.own_prepare_ever e);
  issued = λ e. g.issued (h.issued e);
  child_refused = λ e. g.child_refused (h.child_refused e);
  child_committed = λ e. g.child_committed (h.child_committed e);
  prepared_ever = λ e. g.prepared_ever (h.prepared_ever e);
  heuristic_ever = λ e. g.heuristic_ever (h.heuristic_ever e);
  heuristic_commits = λ e. g.heuristic_commits (h.heuristic_ever e) ∙ h.heuristic_commits e;
  forgot_ever = λ e. g.forgot_ever (h.forgot_ever e);
  sent_prepare = λ e. g.sent_prepare (h.sent_prepare e);
  sent_yes = λ e. g.sent_yes (h.sent_yes e);
  sent_no = λ e. g.sent_no (h.sent_no e);
  sent_read = λ e. g.sent_read (h.sent_read e);
  sent_commit = λ e. g.sent_commit (h.sent_commit e);
  sent_abort = λ e. g.sent_abort (h.sent_abort e);
  sent_ack = λ e. g.sent_ack (h.sent_ack e);
  sent_inquire = λ e. g.sent_inquire (h.sent_inquire e);
}

pub later-now : (r : Reading) → Later r r
later-now r = record {
  outcome = λ e. e;
  born = λ e. e;
  took_part = λ e. e;
  took_part_up = λ e. e;
  first_yes = λ e. e;
  first_no = λ e. e;
  first_read = λ e. e;
  told_committed = λ e. e;
  told_aborted = λ e. e;
  refused = λ e. e;
  read_up = λ e. e;
  own_prepare_ever = λ e. e;
  issued = λ e. e;
  child_refused = λ e. e;
  child_committed = λ e. e;
  prepared_ever = λ e. e;
  heuristic_ever = λ e. e;
  heuristic_commits = λ e. refl;
  forgot_ever = λ e. e;
  sent_prepare = λ e. e;
  sent_yes = λ e. e;
  sent_no = λ e. e;
  sent_read = λ e. e;
  sent_commit = λ e. e;
  sent_abort = λ e. e;
  sent_ack = λ e. e;
  sent_inquire = λ e. e;
}

pub lateness : Lateness
lateness = record { now = later-now; onward = later-later }
