-- The tests of names tell equality.
use Rattle.std.proofs.Common.{◌≡◌, ◌≢◌, ◌⊎◌, true, false, Option, arith}
use Rattle.std.proofs.lemmas.Bool.Decides.{nat_tests}
use Rattle.protocol.specs.declared.names.ProcessId.{ProcessId}
use Rattle.protocol.specs.declared.names.Case.{Case}
use Rattle.protocol.specs.declared.names.Ticket.{Ticket}
use Rattle.protocol.specs.declared.names.Txn.{Txn}
use Rattle.protocol.specs.declared.names.Outcome.{Outcome}
use Rattle.protocol.specs.declared.names.Presumption.{Presumption}
use Rattle.protocol.specs.Names.{same_process, same_presumption, same_outcome, same_txn, same_ticket, same_owner, same_case}

-- the test of processes tells whether they are one
pub same_process_tells : (a b : ProcessId) → ((same_process a b ≡ true) × (a ≡ b))
    ⊎ ((same_process a b ≡ false) × (a ≢ b))
unfolding same_process
same_process_tells a b = grind (arith, nat_tests)

-- the test of presumptions tells whether they are one
pub same_presumption_tells : (a b : Presumption)
    → ((same_presumption a b ≡ true) × (a ≡ b)) ⊎ ((same_presumption a b ≡ false) × (a ≢ b))
unfolding same_presumption
same_presumption_tells a b = grind arith

-- the test of outcomes tells whether they are one
pub same_outcome_tells : (a b : Outcome) → ((same_outcome a b ≡ true) × (a ≡ b))
    ⊎ ((same_outcome a b ≡ false) × (a ≢ b))
unfolding same_outcome
same_outcome_tells a b = grind arith

-- the test of transactions tells whether they are one
pub same_txn_tells : (a b : Txn) → ((same_txn a b ≡ true) × (a ≡ b)) ⊎ ((same_txn a b ≡ false) × (a ≢ b))
unfolding same_txn
same_txn_tells a b = grind (arith, nat_tests, same_presumption_tells)

-- the test of tickets tells whether they are one
pub same_ticket_tells : (a b : Ticket) → ((same_ticket a b ≡ true) × (a ≡ b))
    ⊎ ((same_ticket a b ≡ false) × (a ≢ b))
unfolding same_ticket
same_ticket_tells a b = grind (arith, nat_tests)

-- the test of tickets that may be missing tells whether they are one
pub same_owner_tells : (a b : Option Ticket) → ((same_owner a b ≡ true) × (a ≡ b))
    ⊎ ((same_owner a b ≡ false) × (a ≢ b))
unfolding same_owner
same_owner_tells a b = grind (arith, same_ticket_tells)

-- the test of cases tells whether they are one
pub same_case_tells : (a b : Case) → ((same_case a b ≡ true) × (a ≡ b)) ⊎ ((same_case a b ≡ false) × (a ≢ b))
unfolding same_case
same_case_tells a b = grind (arith, same_txn_tells, same_owner_tells)

-- a case is itself
pub same_case-refl : (c : Case) → same_case c c ≡ true
same_case-refl c = grind (arith, same_case_tells)

-- a transaction is itself
pub same_txn-refl : (x : Txn) → same_txn x x ≡ true
same_txn-refl x = grind (arith, same_txn_tells)

-- a ticket is itself
pub same_ticket-refl : (t : Ticket) → same_ticket t t ≡ true
same_ticket-refl t = grind (arith, same_ticket_tells)

-- what a proof by `grind` reads of the tests
pub ruleset names = (same_txn_tells, same_ticket_tells, same_case_tells)
