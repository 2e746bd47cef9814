use Rattle.protocol.proofs.Equality.{txn_equality, ticket_equality, case_equality}
use Rattle.protocol.proofs.names.equal_by_parts.Goals as goal

pub returns-clause-txn : goal.returns-clause-txn
returns-clause-txn c = txn_equality

pub returns-clause-ticket : goal.returns-clause-ticket
returns-clause-ticket c = ticket_equality

pub returns-clause-case : goal.returns-clause-case
returns-clause-case c = case_equality
