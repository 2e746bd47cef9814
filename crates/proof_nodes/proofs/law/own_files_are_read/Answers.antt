use Rattle.proof_nodes.proofs.Files.{own_files_are_read}
use Rattle.proof_nodes.proofs.law.own_files_are_read.Goals as goal

pub returns : goal.returns
returns g c = own_files_are_read g.L.LogStore.bytes g.L.LogStore.forced g.L.LogStore.failures
