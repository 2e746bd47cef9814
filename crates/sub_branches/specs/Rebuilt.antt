-- What the records of a log leave of a subordinate.
use Rattle.std.specs.Prelude.{◌≡◌, ◌≤◌, ◌<◌, ◌+◌, ◌^◌, ⊤, ℕ, Bool, true, false, if◌then◌else◌, Option, Some, None, is_none, is_some, List, [], ◌∷◌}
use Rattle.std.specs.List.{AllByRecursion, flat_map}
use Rattle.protocol.specs.declared.names.Case.{Case}
use Rattle.protocol.specs.declared.names.Kind.TheVariants.{Manager}
use Rattle.protocol.specs.declared.names.Outcome.{Outcome}
use Rattle.protocol.specs.declared.names.ProcessId.{ProcessId}
use Rattle.protocol.specs.declared.names.Ticket.{Ticket}
use Rattle.protocol.specs.declared.messages.Envelope.{Envelope}
use Rattle.protocol.specs.declared.messages.Message.TheVariants.{Inquire}
use Rattle.protocol.specs.declared.records.BranchName.{BranchName}
use Rattle.protocol.specs.declared.records.BranchName.TheVariants.{Foreign}
use Rattle.protocol_words.specs.Variants.{CaseBranch, PreparedRecord}
use Rattle.protocol.specs.declared.records.LogRecord.{LogRecord}
use Rattle.protocol.specs.declared.records.Record.{Record}
use Rattle.protocol.specs.declared.records.Record.TheVariants.{Opened, Committed, RolledBack, Direct, HeurCommit, HeurRollback, Told, Forgot, Base, Pair}
use Rattle.protocol.specs.CoordinatorRows.{post}
use Rattle.protocol.specs.LogNames.{is_own, name_xid, own_records}
use Rattle.protocol.specs.Nodes.{Place}
use Rattle.protocol.specs.Records.{boot_of, cases_in, decision_of as case_decision, record_branch, with_case}
use Rattle.protocol.specs.Restarts.{manager_resumes, recorded_branch}
use Rattle.protocol.specs.Standings.{Decided, Mark, Promised, ToldOf, mark_of}
use Rattle.xa_branch.specs.declared.decision.Decision.{Decision}
use Rattle.xa_branch.specs.Decisions.{decision_of}
use Rattle.log_text.specs.Parts.{name_in}
use Rattle.log_rules.specs.sound.Sound.{IsSound}
use Rattle.resource_manager.specs.Orders.{AreInOrder}
use Rattle.case_table.specs.Tables.{MovesValue}
use Rattle.sub_branches.specs.declared.branch.LiveBranch.{LiveBranch}
use Rattle.sub_branches.specs.declared.branch.BranchStage.{BranchStage}
use Rattle.sub_branches.specs.declared.branch.BranchStage.TheVariants.{Active, Heuristic, Prepared}
use Rattle.sub_branches.specs.Stages.{awaits}
use Rattle.sub_branches.specs.Tables.{BranchTable, branch_in, ticket_in, view_in}
use Rattle.sub_branches.specs.declared.names.RebuildError.{RebuildError}
use Rattle.sub_branches.specs.declared.names.RebuildError.TheVariants as errors
use Rattle.sub_branches.specs.declared.names.Saying.{Saying}
use Rattle.sub_branches.specs.declared.names.Saying.TheVariants.{Nothing, Boot, Promises as PromisesOf, Ends as EndsOf, Decides, Coordinates}
use Rattle.sub_branches.specs.declared.cases.ReplayedCases.{ReplayedCases}
use Rattle.sub_branches.specs.declared.rebuilt.RebuiltBranches.{RebuiltBranches}

-- Names.

-- the XID of a name reads as this name
abbrev pub NameReads : Option ProcessId → BranchName → Type 0
NameReads p b = name_in (name_xid p b) ≡ (p, b)

-- so does that of a record's branch, if it has one
abbrev pub ReadsBy : Option ProcessId → Option BranchName → Type 0
ReadsBy p None = ⊤
ReadsBy p (Some b) = NameReads p b

-- the XID of a record's branch reads as the branch
abbrev pub ReadsBack : LogRecord → Type 0
ReadsBack l = ReadsBy l.parent (record_branch l.entry)

-- the case that a branch is, where it is the process's own
abbrev pub own_case : Place → Option ProcessId → BranchName → Option Case
own_case place p (CaseBranch c) = if is_own place p c then Some c else None
own_case place p (Foreign x) = None

-- what a record says
abbrev pub saying_of : Record → Saying
saying_of (Opened n) = Boot n
saying_of (PreparedRecord b ws) = PromisesOf b
saying_of (Committed b) = EndsOf b
saying_of (RolledBack b) = EndsOf b
saying_of (Direct b ws) = EndsOf b
saying_of (Forgot b) = EndsOf b
saying_of (HeurCommit b) = Decides b None
saying_of (HeurRollback b) = Decides b None
saying_of (Told b o) = Decides b (Some o)
saying_of (Base n) = Nothing
saying_of (Pair k v) = Nothing
saying_of _ = Coordinates

-- What is kept of the cases.

-- a case at this stage, as it is kept
abbrev pub kept_at : ProcessId → Case → BranchStage → LiveBranch
kept_at p c s = record { xid = name_xid (Some p) (CaseBranch c); stage = s }

-- what is kept of a case by what its last record says
abbrev pub branch_left : ProcessId → Case → Mark → Option LiveBranch
branch_left p c Promised = Some (kept_at p c Prepared)
branch_left p c Decided = Some (kept_at p c (Heuristic None))
branch_left p c (ToldOf o) = Some (kept_at p c (Heuristic (Some o)))
branch_left p c _ = None

-- a case has a ticket of a boot that is at most this
pub record IsGivenBy (boot : ℕ) (c : Case) : Type 0 where
  pub ticket : Ticket
  pub has : c.ticket ≡ Some ticket
  pub within : ticket.boot ≤ boot

-- a case of the process's own, if there is one, has a ticket of a boot that is at most this
abbrev pub IsGivenWhere : ℕ → Option Case → Type 0
IsGivenWhere boot None = ⊤
IsGivenWhere boot (Some c) = IsGivenBy boot c

-- if a record under this parent says that a case of the process's own promised, the case has a ticket of a
-- boot that is at most this
abbrev pub ReachesBy : Place → ℕ → Option ProcessId → Saying → Type 0
ReachesBy place boot q (PromisesOf b) = IsGivenWhere boot (own_case place q b)
ReachesBy place boot q _ = ⊤

-- where a record is the promise of a case of the process's own, the case has a ticket of a boot that is at
-- most this
abbrev pub IsReached : Place → ℕ → LogRecord → Type 0
IsReached place boot l = ReachesBy place boot l.parent (saying_of l.entry)

-- records that a subordinate can have written: each can be in a manager's log, and after those before it; and
-- its own cases promised by tickets of boots that the log has reached
pub record AreFit (place : Place) (ls : List LogRecord) : Type 0 where
  pub sound : AllByRecursion (IsSound Manager) ls
  pub ordered : AreInOrder ls
  pub reached : AllByRecursion (IsReached place (boot_of (own_records place ls))) ls

-- a case that is live is the process's own, and its name reads back
pub record IsOwn (place : Place) (p : ProcessId) (boot : ℕ) (c : Case) : Type 0 where
  pub own : is_own place (Some p) c ≡ true
  pub reads : NameReads (Some p) (CaseBranch c)
  pub given : IsGivenBy boot c

-- what the records say that an operator decided, where the last of them says that he did: for the process,
-- and for its manager
abbrev pub Recalls : Mark → Option Outcome → Decision → Type 0
Recalls Decided o d = o ≡ Some d.outcome
Recalls (ToldOf told) o d = o ≡ Some d.outcome
Recalls _ o d = ⊤

-- what the records say that an operator decided of a case, if the last of them says that he did: for the
-- process, and for its manager
abbrev pub RecallsCase : List Record → Case → Type 0
RecallsCase rs c = Recalls (mark_of (CaseBranch c) rs) (case_decision rs c) (decision_of (CaseBranch c) rs)

-- what some records leave
pub record RecordsLeave (place : Place) (p : ProcessId) (ls : List LogRecord)
    (s : ReplayedCases) : Type 0 where
  pub reads : AllByRecursion ReadsBack ls
  pub boot : s.boot ≡ boot_of (own_records place ls)
  pub order : s.order.keys ≡ cases_in (own_records place ls)
  pub tickets : (d : Case) → ticket_in s.branches d ≡ None
  pub branches : (c : Case)
      → branch_in s.branches c ≡ branch_left p c (mark_of (CaseBranch c) (own_records place ls))
  pub recalls : (c : Case) → RecallsCase (own_records place ls) c
  pub live : (c : Case) (b : LiveBranch) → branch_in s.branches c ≡ Some b → IsOwn place p s.newest c
  pub reached : AllByRecursion (IsReached place s.newest) ls
  pub newest : (n : ℕ) → AllByRecursion (IsReached place n) ls → s.newest ≤ n

-- One record more.

-- there was a record of the case, and nothing else is otherwise
abbrev pub AddsCase : ReplayedCases → ReplayedCases → Case → Type 0
AddsCase old new c =
    new ≡ record old { order = new.order } × (new.order.keys ≡ with_case old.order.keys (Some c))

-- the case promised
pub record Promises (old new : ReplayedCases) (p : ProcessId) (c : Case) : Type 0 where
  pub boot : new.boot ≡ old.boot
  pub order : new.order ≡ old.order
  pub branches : MovesValue old.branches.branches new.branches.branches c (Some (kept_at p c Prepared))
  pub tickets : new.branches.tickets ≡ old.branches.tickets
  pub given : IsGivenBy new.newest c
  pub grows : old.newest ≤ new.newest
  pub least : (n : ℕ) → old.newest ≤ n → IsGivenBy n c → new.newest ≤ n

-- an operator can decide a branch at this stage, which promised; or it can be told an outcome since, where he
-- did
abbrev pub fits_told : Option Outcome → BranchStage → Bool
fits_told told (Active d done spoiled) = false
fits_told told Prepared = is_none told
fits_told told (Heuristic before) = true

-- an operator decided the case, which promised, or it was told this outcome since
pub record DecidesCase (old new : ReplayedCases) (c : Case) (told : Option Outcome) : Type 0 where
  pub boot : new.boot ≡ old.boot
  pub order : new.order ≡ old.order
  pub branch : LiveBranch
  pub was : branch_in old.branches c ≡ Some branch
  pub fits : fits_told told branch.stage ≡ true
  pub branches : MovesValue old.branches.branches new.branches.branches c
      (Some (record { xid = branch.xid; stage = Heuristic told }))
  pub tickets : new.branches.tickets ≡ old.branches.tickets
  pub newest : new.newest ≡ old.newest

-- no ticket is active, if none was
abbrev pub NoTickets : BranchTable → BranchTable → Type 0
NoTickets old new = ((d : Case) → ticket_in old d ≡ None) → (d : Case) → ticket_in new d ≡ None

-- the case is finished
pub record FinishesCase (old new : ReplayedCases) (c : Case) : Type 0 where
  pub boot : new.boot ≡ old.boot
  pub order : new.order ≡ old.order
  pub branches : MovesValue old.branches.branches new.branches.branches c None
  pub tickets : NoTickets old.branches new.branches
  pub newest : new.newest ≡ old.newest

-- what a case of the process's own, or another branch, makes of it that promised
abbrev pub PromisesBy : ReplayedCases → ReplayedCases → ProcessId → Option Case → Type 0
PromisesBy old new p None = new ≡ old
PromisesBy old new p (Some c) = (mid : ReplayedCases) × AddsCase old mid c × Promises mid new p c

-- what a case of the process's own that an operator decided makes of the cases; another branch leaves them
abbrev pub DecidesBy : ReplayedCases → ReplayedCases → Option Outcome → Option Case → Type 0
DecidesBy old new told None = new ≡ old
DecidesBy old new told (Some c) = (mid : ReplayedCases) × AddsCase old mid c × DecidesCase mid new c told

-- what a case of the process's own that is finished makes of the cases; another branch leaves them
abbrev pub EndsBy : ReplayedCases → ReplayedCases → Option Case → Type 0
EndsBy old new None = new ≡ old
EndsBy old new (Some c) = (mid : ReplayedCases) × AddsCase old mid c × FinishesCase mid new c

-- what a record under this parent says makes of the cases
abbrev pub TakesBy : Place → ProcessId → ReplayedCases → ReplayedCases → Option ProcessId → Saying → Type 0
TakesBy place p old new q Nothing = new ≡ old
TakesBy place p old new q (Boot n) = new ≡ record old { boot = n }
TakesBy place p old new q (PromisesOf b) = NameReads q b × PromisesBy old new p (own_case place q b)
TakesBy place p old new q (EndsOf b) = NameReads q b × EndsBy old new (own_case place q b)
TakesBy place p old new q (Decides b told) = NameReads q b × DecidesBy old new told (own_case place q b)
TakesBy place p old new q Coordinates = ⊥

-- one record was read more
abbrev pub ReadsRecord : Place → ProcessId → ReplayedCases → ReplayedCases → LogRecord → Type 0
ReadsRecord place p old new l = TakesBy place p old new l.parent (saying_of l.entry)

-- a case has a ticket and is not live, so it can promise
pub record CanPromise (s : ReplayedCases) (c : Case) : Type 0 where
  pub given : is_some c.ticket ≡ true
  pub fresh : branch_in s.branches c ≡ None

-- a case promised, so an operator can decide it; or it can be told this outcome, as he did
pub record CanDecide (s : ReplayedCases) (told : Option Outcome) (c : Case) : Type 0 where
  pub branch : LiveBranch
  pub live : branch_in s.branches c ≡ Some branch
  pub fits : fits_told told branch.stage ≡ true

-- a case of the process's own can promise, if there is one
abbrev pub PromisesWhere : ReplayedCases → Option Case → Type 0
PromisesWhere s None = ⊤
PromisesWhere s (Some c) = CanPromise s c

-- an operator can decide a case of the process's own, or it can be told this outcome, if there is one
abbrev pub DecidesWhere : ReplayedCases → Option Outcome → Option Case → Type 0
DecidesWhere s told None = ⊤
DecidesWhere s told (Some c) = CanDecide s told c

-- what a record under this parent says can come after these cases
abbrev pub CanComeBy : Place → ReplayedCases → Option ProcessId → Saying → Type 0
CanComeBy place s q (PromisesOf b) = NameReads q b × PromisesWhere s (own_case place q b)
CanComeBy place s q (EndsOf b) = NameReads q b
CanComeBy place s q (Decides b told) = NameReads q b × DecidesWhere s told (own_case place q b)
CanComeBy place s q Coordinates = ⊥
CanComeBy place s q _ = ⊤

-- a record can come after these cases
abbrev pub CanCome : Place → ReplayedCases → LogRecord → Type 0
CanCome place s l = CanComeBy place s l.parent (saying_of l.entry)

-- What is rebuilt.

-- a case of which this is kept asks for its outcome
abbrev pub is_asked : Option LiveBranch → Bool
is_asked None = false
is_asked (Some b) = awaits b.stage

-- an inquiry of a case, where it asks for its outcome
abbrev pub asks_by : ProcessId → ProcessId → Case → Option LiveBranch → List Envelope
asks_by me p c o = if is_asked o then post me p (Inquire c) ∷ [] else []

-- an inquiry of a case in a table, if it asks for its outcome
abbrev pub asks : ProcessId → ProcessId → BranchTable → Case → List Envelope
asks me p t c = asks_by me p c (branch_in t c)

-- a case that is live is in doubt by its records, or decided by an operator, and kept so
pub record IsBranchLeft (place : Place) (p : ProcessId) (rs : List Record) (boot : ℕ) (c : Case)
    (b : LiveBranch) : Type 0 where
  pub own : IsOwn place p boot c
  pub kept : branch_left p c (mark_of (CaseBranch c) rs) ≡ Some b

-- what the records of a log leave: each case stands as the process reads them, those that were not told their
-- outcome are asked about, and the last boot is that of the last Opened
pub record RebuildsBranches (place : Place) (p : ProcessId) (ls : List LogRecord)
    (r : RebuiltBranches) : Type 0 where
  pub reads : AllByRecursion ReadsBack ls
  pub boot : r.boot ≡ boot_of (own_records place ls)
  pub room : r.boot + 1 < 2 ^ 63
  pub tickets : (d : Case) → ticket_in r.branches d ≡ None
  pub views : (c : Case) → view_in r.branches c ≡ recorded_branch (own_records place ls) c
  pub live : (c : Case) (b : LiveBranch) → branch_in r.branches c ≡ Some b
      → IsBranchLeft place p (own_records place ls) r.boot c b
  pub reached : AllByRecursion (IsReached place r.boot) ls
  pub recalls : (c : Case) → RecallsCase (own_records place ls) c
  pub messages : r.messages
      ≡ flat_map (manager_resumes place.me p (own_records place ls)) (cases_in (own_records place ls))

-- Refusals.

-- want of memory, or nothing that fits would be refused so
abbrev pub IsRefusal : Type 0 → RebuildError → Type 0
IsRefusal Fits errors.Memory = ⊤
IsRefusal Fits errors.Unfit = Fits → ⊥
IsRefusal Fits errors.Exhausted = ⊥

-- why nothing was rebuilt: the records are none that a subordinate can have written; or boots are used up,
-- where none below 2^63 comes after the last one
abbrev pub BranchesNotRebuilt : Place → List LogRecord → RebuildError → Type 0
BranchesNotRebuilt place ls errors.Exhausted = 2 ^ 63 ≤ boot_of (own_records place ls) + 1
BranchesNotRebuilt place ls e = IsRefusal (AreFit place ls) e

-- the number of an error
abbrev pub rebuild_number : RebuildError → ℕ
rebuild_number errors.Memory = 1
rebuild_number errors.Unfit = 2
rebuild_number errors.Exhausted = 3
