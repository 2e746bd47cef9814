use Rattle.std.proofs.Common.{sym, subst}
use Rattle.protocol.specs.Nodes.{IsCoordinator}
use Rattle.proof_processes.proofs.CoordinatorsHold
use Rattle.proof_processes.proofs.law.roots_hold.Goals as goal

pub returns : goal.returns
returns c = λ tree es w run p e. CoordinatorsHold.coordinators_hold tree es w run p
    (subst IsCoordinator (sym e) tt)
