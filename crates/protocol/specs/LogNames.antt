-- Whole names: a log names a case by its XID, which below the root has the parent too, and a manager's branch
-- by its XID. So two names that differ in the parent alone are two. The process whose log it is knows its
-- parent, and reads its own names without it; what is not its own is foreign to it.
use Rattle.std.specs.Prelude.{◌≡◌, ◌≢◌, Bool, true, false, ◌&&◌, if◌then◌else◌, Option, Some, None, List, [], ◌∷◌, map, is_some}
use Rattle.std.specs.List.{flat_map, list_all}
use Rattle.xa_xid.specs.Xids.{XidParts}
use Rattle.protocol.specs.declared.names.Case.{Case}
use Rattle.protocol.specs.declared.names.ProcessId.{ProcessId}
use Rattle.protocol.specs.declared.names.Ticket.{Ticket}
use Rattle.protocol.specs.declared.names.Txn.{Txn}
use Rattle.protocol.specs.declared.records.BranchName.{BranchName}
use Rattle.protocol.specs.declared.records.BranchName.TheVariants.{Case as CaseBranch, Foreign}
use Rattle.protocol.specs.declared.records.LogRecord.{LogRecord}
use Rattle.protocol.specs.declared.records.Record.{Record}
use Rattle.protocol.specs.declared.records.Record.TheVariants.{Prepared, Committed, RolledBack, Direct, HeurCommit, HeurRollback, Told, Forgot}
use Rattle.protocol.specs.Names.{same_process, process_of}
use Rattle.protocol.specs.Records.{record_case, record_branch, same_branch}
use Rattle.protocol.specs.Branches.{branch_parts, FitsTxn, FitsBelow}
use Rattle.protocol.specs.Nodes.{Role, AtRoot, Below, AtLeaf, Place}
use Rattle.protocol.specs.Trees.{root_of}

-- Names.

-- the name of a record: its case, or a manager's branch; Opened, Base and Pair have none
abbrev pub name_by : Option Case → Option BranchName → Option BranchName
name_by (Some c) b = Some (CaseBranch c)
name_by None b = b

-- the name of this record, if it has one
abbrev pub record_name : Record → Option BranchName
record_name r = name_by (record_case r) (record_branch r)

-- the parent and the ticket in the XID of a case
abbrev pub below_of : Option Ticket → Option ProcessId → Option (ProcessId × Ticket)
below_of (Some t) (Some p) = Some (p, t)
below_of _ _ = None

-- the XID that a log writes for a name, with the parent of its case
abbrev pub name_xid : Option ProcessId → BranchName → XidParts
name_xid p (CaseBranch c) = branch_parts c.txn (below_of c.ticket p)
name_xid p (Foreign x) = x

-- two parents are one, or neither is there
abbrev pub same_parent : Option ProcessId → Option ProcessId → Bool
same_parent None None = true
same_parent (Some p) (Some q) = same_process p q
same_parent _ _ = false

-- both names are there and are one, and so are their parents
abbrev pub same_name_by : Option ProcessId → Option BranchName → Option ProcessId → Option BranchName → Bool
same_name_by p (Some b) q (Some d) = same_parent p q && same_branch b d
same_name_by _ _ _ _ = false

-- two records of a log are of one name; two names that differ in the parent alone are two
abbrev pub same_name : LogRecord → LogRecord → Bool
same_name l k = same_name_by l.parent (record_name l.entry) k.parent (record_name k.entry)

-- a name is whole: a case has a parent exactly below the root, nothing else has one, and a foreign XID is of
-- no case
abbrev pub IsWholeName : Option ProcessId → Option BranchName → Type 0
IsWholeName p None = p ≡ None
IsWholeName p (Some (CaseBranch c)) = is_some p ≡ is_some c.ticket
IsWholeName p (Some (Foreign x)) =
    (p ≡ None) × ((y : Txn) (b : Option (ProcessId × Ticket)) → FitsTxn y → FitsBelow b
    → branch_parts y b ≢ x)

-- the name of a record in a log is whole
abbrev pub IsWhole : LogRecord → Type 0
IsWhole l = IsWholeName l.parent (record_name l.entry)

-- From a process's record to its log.

-- the parent that goes with a ticket; none without one
abbrev pub ticket_parent : Option ProcessId → Option Ticket → Option ProcessId
ticket_parent p None = None
ticket_parent p (Some t) = p

-- the parent that goes with a case; none where it has no ticket
abbrev pub case_parent : Option ProcessId → Option Case → Option ProcessId
case_parent p None = None
case_parent p (Some c) = ticket_parent p c.ticket

-- the record as the log of a process below this parent holds it
abbrev pub in_log : Option ProcessId → Record → LogRecord
in_log p r = record { entry = r; parent = case_parent p (record_case r) }

-- a record of the process itself, under no parent
abbrev pub unnamed : Record → LogRecord
unnamed r = record { entry = r; parent = None }

-- From a log to the records as its process reads them.

-- the parent of a process with this role
abbrev pub parent_of : Role → Option ProcessId
parent_of AtRoot = None
parent_of (Below p) = Some p
parent_of (AtLeaf p) = Some p

-- whether a case with a ticket can be at such a process
abbrev pub is_ticketed : Role → Option Ticket → Bool
is_ticketed AtRoot None = true
is_ticketed AtRoot (Some t) = false
is_ticketed _ None = false
is_ticketed _ (Some t) = true

-- the name is a case of this process in its tree: by root, parent and child
abbrev pub is_own : Place → Option ProcessId → Case → Bool
is_own place p c =
    same_process c.txn.root (root_of place.tree) && (same_process (process_of c) place.me
    && (is_ticketed place.role c.ticket && same_parent p (parent_of place.role)))

-- the record under another name
abbrev pub renamed : BranchName → Record → Record
renamed b (Prepared d ws) = Prepared b ws
renamed b (Committed d) = Committed b
renamed b (RolledBack d) = RolledBack b
renamed b (Direct d ws) = Direct b ws
renamed b (HeurCommit d) = HeurCommit b
renamed b (HeurRollback d) = HeurRollback b
renamed b (Told d o) = Told b o
renamed b (Forgot d) = Forgot b
renamed b r = r

-- a record whose branch is named by its XID; one without a branch stays
abbrev pub renamed_by : Option ProcessId → Option BranchName → Record → Record
renamed_by p None r = r
renamed_by p (Some b) r = renamed (Foreign (name_xid p b)) r

-- a record of a log, its branch named by its XID: so a branch is the same whoever reads the log
abbrev pub by_xid : LogRecord → Record
by_xid l = renamed_by l.parent (record_branch l.entry) l.entry

-- a coordinator leaves out what is not its own; a manager reads it as a foreign XID
abbrev pub foreign_to : Role → Option ProcessId → Case → Record → List Record
foreign_to (AtLeaf q) p c r = renamed (Foreign (name_xid p (CaseBranch c))) r ∷ []
foreign_to _ p c r = []

-- a log's record as its process reads it: one of a case that is not its own is foreign to it
abbrev pub own_by : Place → LogRecord → Option Case → List Record
own_by place l None = l.entry ∷ []
own_by place l (Some c) =
    if is_own place l.parent c then l.entry ∷ [] else foreign_to place.role l.parent c l.entry

-- the records of a log as the process whose log it is reads them
unfoldable pub own_records : Place → List LogRecord → List Record
own_records place ls = flat_map (λ l. own_by place l (record_case l.entry)) ls

-- a record that the process made: of a case of its own, or of none
abbrev pub is_own_by : Place → Option Case → Bool
is_own_by place None = true
is_own_by place (Some c) = is_own place (parent_of place.role) c

-- the record is of a case of the process's own, or of none
abbrev pub is_own_record : Place → Record → Bool
is_own_record place r = is_own_by place (record_case r)

-- what a process wrote into its log it reads there again
abbrev pub ReadsBack : Place → List Record → Type 0
ReadsBack place rs = list_all (is_own_record place) rs ≡ true
    → own_records place (map (in_log (parent_of place.role)) rs) ≡ rs
