use Rattle.tree_script.proofs.NameLaws.{process_takes, process_again, txn_takes, txn_again, ticket_takes, ticket_again, case_takes, case_again}
use Rattle.tree_script.proofs.law.names_are_spelled_once.Goals as goal

pub returns : goal.returns
returns c = record {
  process_read = process_takes;
  process_spelled = process_again;
  txn_read = txn_takes;
  txn_spelled = txn_again;
  ticket_read = ticket_takes;
  ticket_spelled = ticket_again;
  case_read = case_takes;
  case_spelled = case_again;
}
