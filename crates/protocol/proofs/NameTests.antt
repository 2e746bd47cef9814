-- The tests of names, both ways.
use Rattle.std.proofs.Common.{◌≡◌, ◌↔◌, true, arith}
use Rattle.protocol.specs.declared.names.ProcessId.{ProcessId}
use Rattle.protocol.specs.declared.names.Case.{Case}
use Rattle.protocol.specs.declared.names.Ticket.{Ticket}
use Rattle.protocol.specs.declared.names.Txn.{Txn}
use Rattle.protocol.specs.Names.{same_process, same_txn, same_ticket, same_case}
use Rattle.protocol.specs.NameLaws.{same_process_tells, same_txn_tells, same_ticket_tells, same_case_tells}

pub process_tells : (a b : ProcessId) → (same_process a b ≡ true) ↔ (a ≡ b)
process_tells a b = grind (arith, same_process_tells)

pub txn_tells : (a b : Txn) → (same_txn a b ≡ true) ↔ (a ≡ b)
txn_tells a b = grind (arith, same_txn_tells)

pub ticket_tells : (a b : Ticket) → (same_ticket a b ≡ true) ↔ (a ≡ b)
ticket_tells a b = grind (arith, same_ticket_tells)

pub case_tells : (a b : Case) → (same_case a b ≡ true) ↔ (a ≡ b)
case_tells a b = grind (arith, same_case_tells)
