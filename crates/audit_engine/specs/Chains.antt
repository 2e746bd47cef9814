-- The steps from a case upward, and what is to be done about it.
use Rattle.std.specs.Prelude.{◌≡◌, ℕ, zero, suc, true, Option, Some, None, List, [], ◌∷◌, length}
use Rattle.std.specs.Map.{lookup}
use Rattle.indexmap.specs.IndexMap.{insert_entry}
use Rattle.protocol.specs.declared.names.Case.{Case}
use Rattle.protocol.specs.declared.names.ProcessId.{ProcessId}
use Rattle.protocol.specs.declared.names.Ticket.{Ticket}
use Rattle.protocol.specs.declared.names.Txn.{Txn}
use Rattle.protocol.specs.declared.trees.TreeProcess.{TreeProcess}
use Rattle.protocol.specs.Names.{process_of}
use Rattle.protocol.specs.Nodes.{is_listed}
use Rattle.protocol.specs.Trees.{parent_of}
use Rattle.protocol.specs.Audits.{KeptLogs}
use Rattle.audit_cases.specs.Notes.{LogNotes, notes_of}
use Rattle.audit_tree.specs.Tables.{same_id}
use Rattle.audit_engine.specs.declared.steps.StepDeed.{StepDeed}
use Rattle.audit_engine.specs.declared.steps.StepDeed.TheVariants.{Ask, Restart}
use Rattle.audit_engine.specs.declared.steps.StepFound.{StepFound}
use Rattle.audit_engine.specs.declared.steps.StepFound.TheVariants.{Kept, Nothing}
use Rattle.audit_engine.specs.declared.steps.Stands.TheVariants.{Collecting, Ended, Prepare}
use Rattle.audit_engine.specs.declared.steps.AuditStep.{AuditStep}
use Rattle.audit_engine.specs.Namings.{AreNamed, Founds, finds, found_at}

-- The steps.

-- the case that is in doubt itself, or ended with no decision, and so asks in its turn
abbrev pub asks_on : StepFound → Option Case
asks_on (Kept c Prepare) = Some c
asks_on (Kept c Ended) = Some c
asks_on _ = None

-- the steps of the case that asks in its turn, if there is one
abbrev pub steps_on : (Case → List AuditStep) → Option Case → List AuditStep
steps_on more None = []
steps_on more (Some c) = more c

-- the step in which a ticket asks this parent and finds this, and those after it
abbrev pub steps_from : (Case → List AuditStep) → Ticket → ProcessId → StepFound → List AuditStep
steps_from more t p f = record { ticket = t; process = p; found = f } ∷ steps_on more (asks_on f)

-- the steps of a case with this ticket, where this is the parent of its process; none without a ticket or a
-- parent
abbrev pub steps_by : (Case → List AuditStep) → (ProcessId → StepFound) → Option Ticket → Option ProcessId
    → List AuditStep
steps_by more find None up = []
steps_by more find (Some t) None = []
steps_by more find (Some t) (Some p) = steps_from more t p (find p)

-- what a process finds in the kept lists of a case that is asked about; nothing of one without a ticket
abbrev pub found_in : KeptLogs → Txn → Option Ticket → ProcessId → StepFound
found_in logs x None p = Nothing
found_in logs x (Some t) p = finds (notes_of (logs p)) x t

-- the steps from a case upward, N at most
abbrev pub steps_within : ℕ → List TreeProcess → KeptLogs → Case → List AuditStep
steps_within zero tree logs c = []
steps_within (suc k) tree logs c =
    steps_by (steps_within k tree logs) (found_in logs c.txn c.ticket) c.ticket
    (parent_of tree (process_of c))

-- the steps from a case upward: a tree has no more levels than processes
unfoldable pub chain_of : List TreeProcess → KeptLogs → Case → List AuditStep
chain_of tree logs c = steps_within (length tree) tree logs c

-- What is to be done.

-- ask for the outcome of a case in doubt; restart its process where it has no ticket, since it has nobody to
-- ask
abbrev pub asks : Case → Option Ticket → StepDeed
asks c None = Restart (process_of c)
asks c (Some t) = Ask c

-- what is to be done where this is found of a case by this process; more, where it is in doubt there
abbrev pub deed_by : Case → ProcessId → StepFound → (Case → StepDeed) → StepDeed
deed_by c p (Kept d Collecting) more = Restart p
deed_by c p (Kept d Prepare) more = more d
deed_by c p f more = asks c c.ticket

-- what is to be done about a case in doubt after these steps: the last case in doubt asks, or the process
-- that collects votes is restarted
abbrev pub deed_behind : Case → List AuditStep → StepDeed
deed_behind c [] = asks c c.ticket
deed_behind c (s ∷ ss) = deed_by c s.process s.found (λ d. deed_behind d ss)

-- What is kept while it goes on.

-- what each process finds of the cases of its children
abbrev pub TreeFounds : Type 0
TreeFounds = List (ProcessId × Founds)

-- this is what each listed process finds by its kept list
abbrev pub AreNamings : List TreeProcess → KeptLogs → TreeFounds → Type 0
AreNamings tree logs ns = (q : ProcessId) → is_listed tree q ≡ true
    → (s : Founds) × (lookup (same_id q) ns ≡ Some s) × AreNamed (notes_of (logs q)) s

-- after what processes find this one finds what it does by what is noted of it, if anything is
abbrev pub Adds : Option LogNotes → ProcessId → TreeFounds → TreeFounds → Type 0
Adds None q old new = new ≡ old
Adds (Some n) q old new = (s : Founds) × AreNamed n.table s × (new ≡ insert_entry same_id old q s)

-- what is found of a case among what a process finds, if there is that
abbrev pub found_by_table : Option Founds → Case → StepFound
found_by_table None c = Nothing
found_by_table (Some s) c = found_at s c
