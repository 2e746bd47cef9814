use Rattle.proof_own_logs.proofs.Fitting.{new_logs_are_fit, own_logs_are_fit}
use Rattle.proof_own_logs.proofs.law.own_logs_are_fit.Goals as goal

pub returns-clause-own : goal.returns-clause-own
returns-clause-own g c = own_logs_are_fit g.L.LogStore.bytes g.L.LogStore.forced g.L.LogStore.failures

pub returns-clause-new : goal.returns-clause-new
returns-clause-new g c = new_logs_are_fit g.L.LogStore.bytes g.L.LogStore.forced g.L.LogStore.failures
