use Rattle.proof_worked.proofs.Undecided.{undecided_by}
use Rattle.proof_worked.proofs.definitions.found_undecided_is_what_restarts_found.Goals as goal

pub returns : goal.returns
returns c = λ tree es w run p x. undecided_by tree es w run p x
