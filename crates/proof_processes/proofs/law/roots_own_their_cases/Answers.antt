use Rattle.proof_processes.proofs.RootBegins.{own_transactions}
use Rattle.proof_processes.proofs.law.roots_own_their_cases.Goals as goal

pub returns : goal.returns
returns c = own_transactions
