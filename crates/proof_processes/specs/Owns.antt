-- Whose cases a cascaded coordinator keeps, and to whom a parent's messages go: a case with a ticket stands
-- at the process that gave the ticket.
use Rattle.std.specs.Prelude.{◌≡◌, Bool, true, false, not, Option, Some, None, List, [], ◌∷◌}
use Rattle.protocol.specs.declared.names.Case.{Case}
use Rattle.protocol.specs.declared.names.ProcessId.{ProcessId}
use Rattle.protocol.specs.declared.names.Ticket.{Ticket}
use Rattle.protocol.specs.declared.messages.Message.{Message}
use Rattle.protocol.specs.declared.messages.Message.TheVariants.{Work, Prepare, Commit, Abort}
use Rattle.protocol.specs.declared.messages.Envelope.{Envelope}
use Rattle.protocol.specs.declared.records.Record.{Record}
use Rattle.protocol.specs.Names.{same_process}
use Rattle.protocol.specs.Records.{has, record_case}
use Rattle.protocol.specs.Nodes.{Role, Below}
use Rattle.proof_processes.specs.Lasts.{Logs}

-- there is a ticket, and the process gave it
abbrev pub is_given_by : ProcessId → Option Ticket → Bool
is_given_by me None = false
is_given_by me (Some t) = same_process t.child me

-- the process gave the ticket of the case
abbrev pub is_own_case : ProcessId → Case → Bool
is_own_case me c = is_given_by me c.ticket

-- there is a case, and the process did not give its ticket
abbrev pub is_foreign_case : ProcessId → Option Case → Bool
is_foreign_case me None = false
is_foreign_case me (Some c) = not (is_own_case me c)

-- a record of a case whose ticket the process did not give
abbrev pub is_foreign : ProcessId → Record → Bool
is_foreign me r = is_foreign_case me (record_case r)

-- a cascaded coordinator appends no such record
abbrev pub Owns : Role → ProcessId → Logs → Type 0
Owns (Below p) me l = has (is_foreign me) l.life ≡ false
Owns _ me l = Unit {0}

-- a parent's message goes to the process that gave the ticket of its case
abbrev pub GoesToOwner : ProcessId → Message → Type 0
GoesToOwner to (Work d k op) = is_own_case to d ≡ true
GoesToOwner to (Prepare d k) = is_own_case to d ≡ true
GoesToOwner to (Commit d) = is_own_case to d ≡ true
GoesToOwner to (Abort d) = is_own_case to d ≡ true
GoesToOwner to _ = Unit {0}

-- each parent's message goes to the process that gave the ticket of its case
abbrev pub AllGoToOwners : List Envelope → Type 0
AllGoToOwners [] = Unit {0}
AllGoToOwners (l ∷ ls) = GoesToOwner l.to l.message × AllGoToOwners ls

-- each case of the list is the process's own
abbrev pub AllOwn : ProcessId → List Case → Type 0
AllOwn me [] = Unit {0}
AllOwn me (c ∷ cs) = (is_own_case me c ≡ true) × AllOwn me cs
