-- Names, and their equality as tests.
use Rattle.std.specs.Prelude.{Bool, true, false, ◌==◌, ◌&&◌, Option, Some, None}
use Rattle.protocol.specs.declared.names.ProcessId.{ProcessId}
use Rattle.protocol.specs.declared.names.Case.{Case}
use Rattle.protocol.specs.declared.names.Ticket.{Ticket}
use Rattle.protocol.specs.declared.names.Txn.{Txn}
use Rattle.protocol.specs.declared.names.Outcome.{Outcome}
use Rattle.protocol.specs.declared.names.Outcome.TheVariants.{Committed, Aborted}
use Rattle.protocol.specs.declared.names.Presumption.{Presumption}
use Rattle.protocol.specs.declared.names.Presumption.TheVariants.{PresumeAbort, PresumeCommit}

-- two processes are one
unfoldable pub same_process : ProcessId → ProcessId → Bool
same_process a b = a.0 == b.0

-- two presumptions are one
unfoldable pub same_presumption : Presumption → Presumption → Bool
same_presumption PresumeAbort PresumeAbort = true
same_presumption PresumeCommit PresumeCommit = true
same_presumption _ _ = false

-- two outcomes are one
unfoldable pub same_outcome : Outcome → Outcome → Bool
same_outcome Committed Committed = true
same_outcome Aborted Aborted = true
same_outcome _ _ = false

-- two transactions are one: the same root, boot, sequence number and presumption
unfoldable pub same_txn : Txn → Txn → Bool
same_txn a b = (a.root.0 == b.root.0) && (a.boot == b.boot) && (a.sequence == b.sequence)
    && same_presumption a.presumption b.presumption

-- two tickets are one: the same child, boot and number
unfoldable pub same_ticket : Ticket → Ticket → Bool
same_ticket a b = (a.child.0 == b.child.0) && (a.boot == b.boot) && (a.number == b.number)

-- two cases have no ticket, or one
unfoldable pub same_owner : Option Ticket → Option Ticket → Bool
same_owner None None = true
same_owner (Some a) (Some b) = same_ticket a b
same_owner _ _ = false

-- two cases are one
unfoldable pub same_case : Case → Case → Bool
same_case a b = same_txn a.txn b.txn && same_owner a.ticket b.ticket

-- the transaction at its root
abbrev pub root_case : Txn → Case
root_case x = record { txn = x; ticket = None }

-- the transaction at the process that issued the ticket
abbrev pub child_case : Txn → Ticket → Case
child_case x t = record { txn = x; ticket = Some t }

-- the outcome that an inquiry gets if nothing is known (R*)
abbrev pub presumed : Presumption → Outcome
presumed PresumeAbort = Aborted
presumed PresumeCommit = Committed

-- the process where a case stands: its ticket's child, or the root
abbrev pub owner_of : Option Ticket → Txn → ProcessId
owner_of None x = x.root
owner_of (Some t) x = t.child

-- the process where a case stands
abbrev pub process_of : Case → ProcessId
process_of c = owner_of c.ticket c.txn
