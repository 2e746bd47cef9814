use Rattle.protocol.proofs.NameTests.{process_tells, txn_tells, ticket_tells, case_tells}
use Rattle.proof_worked.proofs.definitions.names_tell.Goals as goal

pub returns : goal.returns
returns c = record {
  process = λ a b. process_tells a b;
  txn = λ a b. txn_tells a b;
  ticket = λ a b. ticket_tells a b;
  case = λ a b. case_tells a b;
}
