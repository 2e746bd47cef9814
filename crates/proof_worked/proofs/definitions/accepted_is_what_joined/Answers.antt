use Rattle.proof_worked.proofs.TicketsJoined.{joined_so}
use Rattle.proof_worked.proofs.definitions.accepted_is_what_joined.Goals as goal

pub returns : goal.returns
returns c = λ tree es w run p i c t. joined_so tree c t es w run p i
