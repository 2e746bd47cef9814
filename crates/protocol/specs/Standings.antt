-- Where a case is at a process, and the process's view of it: read off its kept records and the heard
-- inputs.
use Rattle.std.specs.Prelude.{ℕ, Bool, true, false, not, ◌||◌, if◌then◌else◌, Option, Some, None, List, [], ◌∷◌, ◌++◌, filter, find, fold, map}
use Rattle.protocol.specs.declared.names.Case.{Case}
use Rattle.protocol.specs.declared.names.Ticket.{Ticket}
use Rattle.protocol.specs.declared.names.Txn.{Txn}
use Rattle.protocol.specs.declared.names.Outcome.{Outcome}
use Rattle.protocol.specs.declared.names.Outcome.TheVariants.{Committed as CommittedOutcome, Aborted as AbortedOutcome}
use Rattle.protocol.specs.declared.names.Presumption.{Presumption}
use Rattle.protocol.specs.declared.names.Presumption.TheVariants.{PresumeAbort}
use Rattle.protocol.specs.declared.messages.Finding.{Finding}
use Rattle.protocol.specs.declared.messages.Finding.TheVariants.{Mixed, Unreported}
use Rattle.protocol.specs.declared.records.BranchName.{BranchName}
use Rattle.protocol.specs.declared.records.BranchName.TheVariants.{Case as CaseBranch, Foreign}
use Rattle.protocol.specs.declared.records.Record.{Record}
use Rattle.protocol.specs.declared.records.Record.TheVariants.{Prepared as PreparedRecord, Committed, RolledBack, Direct, HeurCommit, HeurRollback, Told, Forgot}
use Rattle.protocol.specs.declared.standings.Standing.{Standing}
use Rattle.protocol.specs.declared.standings.Standing.TheVariants.{Unknown, Active, Collecting, Prepared, Committing, Aborting, Heuristic}
use Rattle.protocol.specs.declared.standings.Vote.{Vote}
use Rattle.protocol.specs.Names.{same_txn, same_outcome, root_case}
use Rattle.protocol.specs.Records.{has, in_list, none_of, same_branch, is_collecting, is_prepare, is_commit, is_abort, is_end, decision_of, named_by, promised_by, owing_by, cases_in}
use Rattle.protocol.specs.Nodes.{Version, First, Second, Place, Role, AtRoot, AtLeaf, Node, kept}
use Rattle.protocol.specs.Memory.{Memory, Phase, Open, Asked, memory_of, has_acked, found_of}
use Rattle.protocol.specs.declared.records.LogRecord.{LogRecord}
use Rattle.protocol.specs.LogNames.{by_xid}
use Rattle.xa_xid.specs.declared.xid.Xid.{Xid}

-- A coordinator.

-- Its standing; the accepted tickets, their first votes, a ticket for each work sent; the tickets that its
-- Prepared record names, those that any of its records names, and those that still owe an acknowledgement;
-- and what those found that acknowledged its decision.
pub record CoordinatorView : Type 0 where
  pub standing : Standing
  pub accepted : List Ticket
  pub votes : List (Ticket × Vote)
  pub works : List Ticket
  pub promised : List Ticket
  pub named : List Ticket
  pub owed : List Ticket
  pub found : List Finding

-- the view of a case of which nothing is known
abbrev pub unknown_view : CoordinatorView
unknown_view = record {
  standing = Unknown;
  accepted = [];
  votes = [];
  works = [];
  promised = [];
  named = [];
  owed = [];
  found = [];
}

-- the standing of a decided case, but Unknown if the decision names nobody
abbrev pub unless_none : Bool → Standing → Standing
unless_none true s = Unknown
unless_none false s = s

-- with no record of the case: under Presumed Commit votes are collected after a record only
abbrev pub phase_standing : Presumption → Phase → Standing
phase_standing p Open = Active
phase_standing PresumeAbort Asked = Collecting
phase_standing _ _ = Unknown

-- by the records End, Commit, Abort, Prepare, Collecting, whether the decision names nobody, and what was
-- heard
abbrev pub standing_by : Bool → Bool → Bool → Bool → Bool → Bool → Standing → Standing
standing_by true _ _ _ _ none heard = Unknown
standing_by false true _ _ _ none heard = unless_none none Committing
standing_by false false true _ _ none heard = unless_none none Aborting
standing_by false false false true _ none heard = Prepared
standing_by false false false false true none heard = Collecting
standing_by false false false false false none heard = heard

-- where the case stands, by these records and this memory
abbrev pub coordinator_standing : List Record → Case → Memory → Standing
coordinator_standing rs c m =
    standing_by (has (is_end c) rs) (has (is_commit c) rs) (has (is_abort c) rs) (has (is_prepare c) rs)
    (has (is_collecting c) rs) (none_of (owing_by c rs)) (phase_standing c.txn.presumption m.phase)

-- the outcome by which a case that waits for acknowledgements was decided
abbrev pub decided_outcome : Standing → Outcome
decided_outcome Committing = CommittedOutcome
decided_outcome _ = AbortedOutcome

-- the tickets of the list that have not acknowledged the outcome
unfoldable pub still_owed : List (Ticket × Outcome) → Outcome → List Ticket → List Ticket
still_owed acks o ts = filter (λ t. not (has_acked acks o t)) ts

-- a case that is Unknown has nothing else
abbrev pub known_view : Standing → CoordinatorView → CoordinatorView
known_view Unknown v = unknown_view
known_view _ v = v

-- the view of a case with this standing, by these records and this memory
abbrev pub view_at : Standing → List Record → Case → Memory → CoordinatorView
view_at s rs c m =
    known_view s (record {
      standing = s;
      accepted = m.accepted;
      votes = m.votes;
      works = m.works;
      promised = promised_by c rs;
      named = named_by c rs;
      owed = still_owed m.acks (decided_outcome s) (owing_by c rs);
      found = found_of m.found (decided_outcome s) (owing_by c rs);
    })

-- a coordinator's view of the case
unfoldable pub coordinator_view : Place → Node → Case → CoordinatorView
coordinator_view place n c =
    let m = memory_of place n c in
    view_at (coordinator_standing (kept n) c m) (kept n) c m

-- What is found.

-- what was found below a case that was decided so, as an acknowledgement that is owed brings these findings
unfoldable pub found_below : Place → Node → Case → Outcome → List Finding → List Finding
found_below place n c o fs = found_of (memory_of place n c).found o (owing_by c (kept n)) ++ fs

-- the finding of a case's own ticket; the root's case has none
abbrev pub own_finding : (Ticket → Finding) → Option Ticket → List Finding
own_finding f None = []
own_finding f (Some t) = f t ∷ []

-- by the second version a case below the root of which nothing is known is unreported
abbrev pub unknown_findings : Version → Case → List Finding
unknown_findings First c = []
unknown_findings Second c = own_finding Unreported c.ticket

-- the other outcome
abbrev pub other_outcome : Outcome → Outcome
other_outcome CommittedOutcome = AbortedOutcome
other_outcome AbortedOutcome = CommittedOutcome

-- an operator decided, and otherwise than this outcome
abbrev pub decided_against : Option Outcome → Outcome → Bool
decided_against None o = false
decided_against (Some d) o = not (same_outcome d o)

-- by the second version a branch is mixed that an operator decided against the outcome that it is told
abbrev pub decided_findings : Version → List Record → Case → Outcome → List Finding
decided_findings First rs c o = []
decided_findings Second rs c o =
    if decided_against (decision_of rs c) o then own_finding Mixed c.ticket else []

-- Whose case a child is of.

-- the child is accepted in the case, or a kept record of it names the child
abbrev pub belongs : Memory → List Record → Case → Ticket → Bool
belongs m rs c t = in_list m.accepted t || in_list (named_by c rs) t

-- any case of the process: what it remembers of itself is the same in each
abbrev pub some_case : Place → Case
some_case place = record {
  txn = record {
    root = place.me;
    boot = 0;
    sequence = 0;
    presumption = PresumeAbort;
  };
  ticket = None;
}

-- the cases of the transaction that may have children: at the root its own; below it the recorded ones, then
-- those issued in this boot
abbrev pub own_cases : Role → Place → Node → Txn → List Case
own_cases AtRoot place n x = root_case x ∷ []
own_cases _ place n x = filter (λ c. same_txn c.txn x)
    (cases_in (kept n) ++ (memory_of place n (some_case place)).issued)

-- the first case of the transaction to which the child belongs
abbrev pub case_of_child : Place → Node → Txn → Ticket → Option Case
case_of_child place n x t =
    find (λ c. belongs (memory_of place n c) (kept n) c t) (own_cases place.role place n x)

-- A manager.

-- Its standing; how many works are done, and whether one was refused; the outcome that it was told after an
-- operator's decision.
pub record ManagerView : Type 0 where
  pub standing : Standing
  pub done : ℕ
  pub spoiled : Bool
  pub told : Option Outcome

-- the view of a branch of which nothing is known
abbrev pub unknown_branch : ManagerView
unknown_branch = record { standing = Unknown; done = 0; spoiled = false; told = None }

-- what the last record of a branch says
pub data Mark : Type 0 where
  Unmarked : Mark
  Promised : Mark
  -- an operator decided it
  Decided : Mark
  -- and it was told this outcome
  ToldOf : Outcome → Mark
  Finished : Mark

-- the mark after one more record; records of other branches leave it
abbrev pub mark_after : BranchName → Mark → Record → Mark
mark_after b m (PreparedRecord d ws) = if same_branch d b then Promised else m
mark_after b m (Committed d) = if same_branch d b then Finished else m
mark_after b m (RolledBack d) = if same_branch d b then Finished else m
mark_after b m (Direct d ws) = if same_branch d b then Finished else m
mark_after b m (HeurCommit d) = if same_branch d b then Decided else m
mark_after b m (HeurRollback d) = if same_branch d b then Decided else m
mark_after b m (Told d o) = if same_branch d b then ToldOf o else m
mark_after b m (Forgot d) = if same_branch d b then Finished else m
mark_after b m _ = m

-- the mark of the branch after these records
unfoldable pub mark_of : BranchName → List Record → Mark
mark_of b rs = fold (mark_after b) Unmarked rs

-- what the last record of a branch says in a log, by its XID
abbrev pub mark_at : List LogRecord → Xid → Mark
mark_at ls x = mark_of (Foreign x) (map by_xid ls)

-- a branch that is Active has its works
abbrev pub active_branch : Memory → ManagerView
active_branch m = record { standing = Active; done = m.done; spoiled = m.spoiled; told = None }

-- a branch with this standing and what it was told; no works count
abbrev pub standing_branch : Standing → Option Outcome → ManagerView
standing_branch s told = record { standing = s; done = 0; spoiled = false; told = told }

-- a branch of which there is no record: Active while it takes work, else Unknown
abbrev pub heard_branch : Memory → Phase → ManagerView
heard_branch m Open = active_branch m
heard_branch m _ = unknown_branch

-- the view of a branch with this mark
abbrev pub marked_branch : Memory → Mark → ManagerView
marked_branch m Unmarked = heard_branch m m.phase
marked_branch m Promised = standing_branch Prepared None
marked_branch m Decided = standing_branch Heuristic None
marked_branch m (ToldOf o) = standing_branch Heuristic (Some o)
marked_branch m Finished = unknown_branch

-- a manager's view of the case
unfoldable pub manager_view : Place → Node → Case → ManagerView
manager_view place n c = marked_branch (memory_of place n c) (mark_of (CaseBranch c) (kept n))

-- Any process.

-- where the case is at a process of this role
abbrev pub standing_in : Role → Place → Node → Case → Standing
standing_in (AtLeaf p) place n c = (manager_view place n c).standing
standing_in _ place n c = (coordinator_view place n c).standing

-- where the case stands
abbrev pub standing_of : Place → Node → Case → Standing
standing_of place n c = standing_in place.role place n c
