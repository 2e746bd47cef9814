use Rattle.proof_nodes.proofs.Finding.{stores_leave}
use Rattle.proof_nodes.proofs.law.stores_leave_files.Goals as goal

pub returns : goal.returns
returns g c = stores_leave c.args.store.now
