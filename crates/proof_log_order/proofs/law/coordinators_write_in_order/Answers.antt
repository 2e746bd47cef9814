use Rattle.protocol.specs.Nodes.{kept, place_of}
use Rattle.proof_processes.proofs.CoordinatorLogs.{all_fit}
use Rattle.proof_log_order.proofs.Follows.{begins_still, written_so}
use Rattle.proof_log_order.proofs.Ranks.{ordered}
use Rattle.proof_log_order.proofs.law.coordinators_write_in_order.Goals as goal

pub returns : goal.returns
returns c = λ tree es w run q i own fits.
    let w' = written_so tree es w run q i in
    ordered (place_of tree q) i (kept (w.at q)) (begins_still (w.at q).forced (w.at q).unforced w'.begins)
    (all_fit tree es w run q i) w'.follow own fits
