-- What a record says of a case.
use Rattle.std.specs.Prelude.{Bool, true, false, ◌==◌, ◌&&◌, if◌then◌else◌, ℕ, Option, Some, None, is_some, List, [], ◌∷◌, ◌++◌, fold, map}
use Rattle.std.specs.List.{list_any, flat_map}
use Rattle.std.specs.Ordering.{int_eq}
use Rattle.xa_xid.specs.Xids.{XidParts}
use Rattle.protocol.specs.declared.names.Case.{Case}
use Rattle.protocol.specs.declared.names.Ticket.{Ticket}
use Rattle.protocol.specs.declared.names.Outcome.{Outcome}
use Rattle.protocol.specs.declared.messages.Finding.{Finding}
use Rattle.protocol.specs.declared.messages.Finding.TheVariants.{Mixed, Unreported}
use Rattle.protocol.specs.declared.names.Outcome.TheVariants.{Committed as CommittedOutcome, Aborted as AbortedOutcome}
use Rattle.protocol.specs.declared.records.BranchName.{BranchName}
use Rattle.protocol.specs.declared.records.BranchName.TheVariants.{Case as CaseBranch, Foreign}
use Rattle.protocol.specs.declared.records.Record.{Record}
use Rattle.protocol.specs.declared.records.Record.TheVariants.{Opened, Collecting, Prepare, Commit, Abort, End, Cleared, Prepared, Committed, RolledBack, Direct, HeurCommit, HeurRollback, Told, Forgot, Base, Pair}
use Rattle.protocol.specs.declared.records.RecordKind.{RecordKind}
use Rattle.protocol.specs.declared.records.RecordKind.TheVariants.{Opened as OpenedKind, Collecting as CollectingKind, Prepare as PrepareKind, Commit as CommitKind, Abort as AbortKind, End as EndKind, EndMixed as EndMixedKind, Cleared as ClearedKind, Prepared as PreparedKind, Committed as CommittedKind, RolledBack as RolledBackKind, Direct as DirectKind, HeurCommit as HeurCommitKind, HeurRollback as HeurRollbackKind, Told as ToldKind, Forgot as ForgotKind, Base as BaseKind, Pair as PairKind}
use Rattle.protocol.specs.declared.records.Subject.{Subject}
use Rattle.protocol.specs.declared.records.Subject.TheVariants.{Boot, Case as OfCase, Other}
use Rattle.protocol.specs.Names.{same_case, same_ticket}

-- a record passes the test
unfoldable pub has : (Record → Bool) → List Record → Bool
has q rs = list_any q rs

-- the ticket is in the list
unfoldable pub in_list : List Ticket → Ticket → Bool
in_list ts t = list_any (λ u. same_ticket u t) ts

-- there is no ticket
unfoldable pub none_of : List Ticket → Bool
none_of [] = true
none_of (t ∷ ts) = false

-- two texts or byte strings are one
unfoldable pub same_bytes : List ℕ → List ℕ → Bool
same_bytes [] [] = true
same_bytes (a ∷ as') (b ∷ bs) = if a == b then same_bytes as' bs else false
same_bytes _ _ = false

-- two XIDs are one
unfoldable pub same_xid : XidParts → XidParts → Bool
same_xid a b = same_bytes a.gtrid b.gtrid && same_bytes a.bqual b.bqual && (int_eq a.format b.format)

-- two branches are one
unfoldable pub same_branch : BranchName → BranchName → Bool
same_branch (CaseBranch c) (CaseBranch d) = same_case c d
same_branch (Foreign x) (Foreign y) = same_xid x y
same_branch _ _ = false

-- a branch is the case
abbrev pub is_branch : Case → BranchName → Bool
is_branch c (CaseBranch d) = same_case d c
is_branch c (Foreign x) = false

-- Tests of one record for one case.

-- an Opened record
abbrev pub is_opened : Record → Bool
is_opened (Opened n) = true
is_opened _ = false

-- a Collecting record of the case
abbrev pub is_collecting : Case → Record → Bool
is_collecting c (Collecting d ts) = same_case d c
is_collecting c _ = false

-- a Prepare record of the case
abbrev pub is_prepare : Case → Record → Bool
is_prepare c (Prepare d ts) = same_case d c
is_prepare c _ = false

-- a Commit record of the case
abbrev pub is_commit : Case → Record → Bool
is_commit c (Commit d ts) = same_case d c
is_commit c _ = false

-- an Abort record of the case
abbrev pub is_abort : Case → Record → Bool
is_abort c (Abort d ts) = same_case d c
is_abort c _ = false

-- an End record of the case, with what was found or without
abbrev pub is_end : Case → Record → Bool
is_end c (End d r) = same_case d c
is_end c _ = false

-- a manager's Prepared record of the case
abbrev pub is_prepared : Case → Record → Bool
is_prepared c (Prepared b ws) = is_branch c b
is_prepared c _ = false

-- a manager's Committed record of the case
abbrev pub is_committed : Case → Record → Bool
is_committed c (Committed b) = is_branch c b
is_committed c _ = false

-- a manager's RolledBack record of the case
abbrev pub is_rolled_back : Case → Record → Bool
is_rolled_back c (RolledBack b) = is_branch c b
is_rolled_back c _ = false

-- an operator's decision
abbrev pub is_heuristic : Case → Record → Bool
is_heuristic c (HeurCommit b) = is_branch c b
is_heuristic c (HeurRollback b) = is_branch c b
is_heuristic c _ = false

-- an operator's decision by this outcome
abbrev pub is_decided : Case → Outcome → Record → Bool
is_decided c CommittedOutcome (HeurCommit b) = is_branch c b
is_decided c CommittedOutcome _ = false
is_decided c AbortedOutcome (HeurRollback b) = is_branch c b
is_decided c AbortedOutcome _ = false

-- what an operator decided of the case after one more record: the last decision after its last promise counts
abbrev pub decision_after : Case → Option Outcome → Record → Option Outcome
decision_after c d (Prepared b ws) = if is_branch c b then None else d
decision_after c d (HeurCommit b) = if is_branch c b then Some CommittedOutcome else d
decision_after c d (HeurRollback b) = if is_branch c b then Some AbortedOutcome else d
decision_after c d _ = d

-- what an operator decided of the case by these records
unfoldable pub decision_of : List Record → Case → Option Outcome
decision_of rs c = fold (decision_after c) None rs

-- the report of the case is after one more record: an End with reports sets it up, and Cleared undoes it
abbrev pub reported_after : Case → Bool → Record → Bool
reported_after c b (End d rep) = if same_case d c then is_some rep else b
reported_after c b (Cleared d) = if same_case d c then false else b
reported_after c b _ = b

-- these records report what was found of the case, and it was not cleared since
unfoldable pub is_reported : List Record → Case → Bool
is_reported rs c = fold (reported_after c) false rs

-- a manager's Told record of the case, of either outcome
abbrev pub is_told : Case → Record → Bool
is_told c (Told b o) = is_branch c b
is_told c _ = false

-- a manager's Forgot record of the case
abbrev pub is_forgot : Case → Record → Bool
is_forgot c (Forgot b) = is_branch c b
is_forgot c _ = false

-- What records name.

-- the tickets that a record of the case names
abbrev pub named_in : Case → Record → List Ticket
named_in c (Collecting d ts) = if same_case d c then ts else []
named_in c (Prepare d ts) = if same_case d c then ts else []
named_in c (Commit d ts) = if same_case d c then ts else []
named_in c (Abort d ts) = if same_case d c then ts else []
named_in c _ = []

-- the tickets that a Prepare record of the case names: the children that voted yes
abbrev pub promised_in : Case → Record → List Ticket
promised_in c (Prepare d ts) = if same_case d c then ts else []
promised_in c _ = []

-- the tickets that a decision of the case names: the children that owe an acknowledgement
abbrev pub owing_in : Case → Record → List Ticket
owing_in c (Commit d ts) = if same_case d c then ts else []
owing_in c (Abort d ts) = if same_case d c then ts else []
owing_in c _ = []

-- the tickets that the records of the case name
unfoldable pub named_by : Case → List Record → List Ticket
named_by c rs = flat_map (named_in c) rs

-- the tickets that the Prepare records of the case name
unfoldable pub promised_by : Case → List Record → List Ticket
promised_by c rs = flat_map (promised_in c) rs

-- the tickets that the decisions of the case name
unfoldable pub owing_by : Case → List Record → List Ticket
owing_by c rs = flat_map (owing_in c) rs

-- the boot after one more record: an Opened sets it
abbrev pub boot_after : ℕ → Record → ℕ
boot_after b (Opened n) = n
boot_after b _ = b

-- the boot of a log, by its last Opened record; 0 if there is none
unfoldable pub boot_of : List Record → ℕ
boot_of rs = fold boot_after 0 rs

-- the case that a branch is
abbrev pub branch_case : BranchName → Option Case
branch_case (CaseBranch c) = Some c
branch_case (Foreign x) = None

-- the case that a record is of
abbrev pub record_case : Record → Option Case
record_case (Collecting c ts) = Some c
record_case (Prepare c ts) = Some c
record_case (Commit c ts) = Some c
record_case (Abort c ts) = Some c
record_case (End c r) = Some c
record_case (Cleared c) = Some c
record_case (Prepared b ws) = branch_case b
record_case (Committed b) = branch_case b
record_case (RolledBack b) = branch_case b
record_case (Direct b ws) = branch_case b
record_case (HeurCommit b) = branch_case b
record_case (HeurRollback b) = branch_case b
record_case (Told b o) = branch_case b
record_case (Forgot b) = branch_case b
record_case (Opened n) = None
record_case (Base n) = None
record_case (Pair k v) = None

-- the branch that a manager's record is of
abbrev pub record_branch : Record → Option BranchName
record_branch (Prepared b ws) = Some b
record_branch (Committed b) = Some b
record_branch (RolledBack b) = Some b
record_branch (Direct b ws) = Some b
record_branch (HeurCommit b) = Some b
record_branch (HeurRollback b) = Some b
record_branch (Told b o) = Some b
record_branch (Forgot b) = Some b
record_branch _ = None

-- a Prepared record of the branch
abbrev pub prepares_branch : BranchName → Record → Bool
prepares_branch b (Prepared d ws) = same_branch d b
prepares_branch b _ = false

-- a case is in the list
unfoldable pub has_case : List Case → Case → Bool
has_case cs c = list_any (λ d. same_case d c) cs

-- the list with the case at its end, unless it has it already or there is none
abbrev pub with_case : List Case → Option Case → List Case
with_case cs None = cs
with_case cs (Some c) = if has_case cs c then cs else cs ++ c ∷ []

-- the list with the case of the record at its end, unless it has it already or there is none
abbrev pub with_record : List Case → Record → List Case
with_record cs r = with_case cs (record_case r)

-- the cases of a log, each once, in order of their first records
unfoldable pub cases_in : List Record → List Case
cases_in rs = fold with_record [] rs

-- What acknowledgements found.

-- the tickets that findings report as mixed, in their order
unfoldable pub mixed_of : List Finding → List Ticket
mixed_of [] = []
mixed_of (Mixed t ∷ fs) = t ∷ mixed_of fs
mixed_of (Unreported t ∷ fs) = mixed_of fs

-- the tickets that they report as unreported, in their order
unfoldable pub unreported_of : List Finding → List Ticket
unreported_of [] = []
unreported_of (Mixed t ∷ fs) = unreported_of fs
unreported_of (Unreported t ∷ fs) = t ∷ unreported_of fs

-- these findings in the order of an acknowledgement's text: the mixed tickets, and the unreported ones after
-- them
abbrev pub in_order : List Finding → List Finding
in_order fs = map (λ t. Mixed t) (mixed_of fs) ++ map (λ t. Unreported t) (unreported_of fs)

-- How a trace names records.

-- the kind of a record
abbrev pub kind_of : Record → RecordKind
kind_of (Opened n) = OpenedKind
kind_of (Collecting c ts) = CollectingKind
kind_of (Prepare c ts) = PrepareKind
kind_of (Commit c ts) = CommitKind
kind_of (Abort c ts) = AbortKind
kind_of (End c None) = EndKind
kind_of (End c (Some r)) = EndMixedKind
kind_of (Cleared c) = ClearedKind
kind_of (Prepared b ws) = PreparedKind
kind_of (Committed b) = CommittedKind
kind_of (RolledBack b) = RolledBackKind
kind_of (Direct b ws) = DirectKind
kind_of (HeurCommit b) = HeurCommitKind
kind_of (HeurRollback b) = HeurRollbackKind
kind_of (Told b o) = ToldKind
kind_of (Forgot b) = ForgotKind
kind_of (Base n) = BaseKind
kind_of (Pair k v) = PairKind

-- what a record of this case is of; something other if there is none
abbrev pub case_subject : Option Case → Subject
case_subject None = Other
case_subject (Some c) = OfCase c

-- what a record is of: the boot, or its case if it has one
abbrev pub subject_of : Record → Subject
subject_of (Opened n) = Boot n
subject_of r = case_subject (record_case r)
