-- The equality of names in code is that of the definitions.
use Rattle.std.proofs.Common.{◌≡◌, arith}
use Rattle.protocol.specs.Names.{same_case, same_ticket, same_txn, same_owner, same_presumption}
use Rattle.protocol.specs.declared.names.Case.{Case}
use Rattle.protocol.specs.declared.names.Ticket.{Ticket}
use Rattle.protocol.specs.declared.names.Txn.{Txn}
use Rattle.protocol.specs.contracts.names.TxnPartialEq.TheImpl as txns
use Rattle.protocol.specs.contracts.names.TicketPartialEq.TheImpl as tickets
use Rattle.protocol.specs.contracts.names.CasePartialEq.TheImpl as cases

pub txn_equality : (a b : Txn) → txns.ghosts.eq a b ≡ same_txn a b
unfolding same_txn same_presumption
txn_equality a b = grind arith

pub ticket_equality : (a b : Ticket) → tickets.ghosts.eq a b ≡ same_ticket a b
unfolding same_ticket
ticket_equality a b = grind arith

pub case_equality : (a b : Case) → cases.ghosts.eq a b ≡ same_case a b
unfolding same_case same_owner same_ticket same_txn same_presumption
case_equality a b = grind arith
