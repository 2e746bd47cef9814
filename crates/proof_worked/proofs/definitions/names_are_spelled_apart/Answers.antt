use Rattle.proof_worked.proofs.TextLaws.{tickets_told, cases_told}
use Rattle.proof_worked.proofs.definitions.names_are_spelled_apart.Goals as goal

pub returns : goal.returns
returns c = record { tickets = λ t u. tickets_told t u; cases = λ a b. cases_told a b }
