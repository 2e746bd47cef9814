use Rattle.protocol.proofs.RunLaws.{node_by_run, net_by_run}
use Rattle.proof_worked.proofs.definitions.processes_are_their_moves.Goals as goal

pub returns : goal.returns
returns c = record {
  processes = λ tree es w run p. node_by_run tree es w run p;
  net = λ tree es w run. net_by_run tree es w run;
}
