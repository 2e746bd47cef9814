-- The audit: what a tree and the kept lists of its processes say of each case, and that it is true.
use Rattle.std.specs.Prelude.{◌≡◌, ◌≢◌, ℕ, zero, suc, Bool, true, false, not, ◌&&◌, ◌||◌, Option, Some, None, List, [], ◌∷◌, find, if◌then◌else◌, length}
use Rattle.protocol.specs.declared.names.Case.{Case}
use Rattle.protocol.specs.declared.names.Outcome.{Outcome}
use Rattle.protocol.specs.declared.names.Outcome.TheVariants.{Committed, Aborted}
use Rattle.protocol.specs.declared.names.Presumption.{Presumption}
use Rattle.protocol.specs.declared.names.ProcessId.{ProcessId}
use Rattle.protocol.specs.declared.names.Ticket.{Ticket}
use Rattle.protocol.specs.declared.names.Txn.{Txn}
use Rattle.protocol.specs.declared.records.Record.{Record}
use Rattle.protocol.specs.declared.trees.TreeProcess.{TreeProcess}
use Rattle.protocol.specs.Names.{same_process, same_txn, presumed, process_of}
use Rattle.protocol.specs.Records.{has, is_collecting, is_prepare, is_commit, is_abort, is_end, is_prepared, is_decided, is_forgot, cases_in}
use Rattle.protocol.specs.Nodes.{Role, AtRoot, Below, AtLeaf, role_of, is_listed, kept}
use Rattle.protocol.specs.Outcomes.{DecisionStands, Mismatch, outcome_of}
use Rattle.protocol.specs.World.{World}
use Rattle.protocol.specs.declared.names.Outcome.TheVariants.{Committed as CommittedOutcome, Aborted as AbortedOutcome}
use Rattle.protocol.specs.declared.records.Record.TheVariants.{Told as ToldRecord, Collecting as CollectingRecord, Prepare as PrepareRecord, Commit as CommitRecord, Abort as AbortRecord}
use Rattle.protocol.specs.Records.{is_branch, is_committed, is_rolled_back, in_list}
use Rattle.protocol.specs.Names.{same_case}

-- the parent of a process of this role; the process itself at the root
abbrev pub parent_in : Role → ProcessId → ProcessId
parent_in (Below p) q = p
parent_in (AtLeaf p) q = p
parent_in AtRoot q = q

-- a child's promise: a manager's Prepared, a coordinator's Prepare
abbrev pub is_promise : Case → Record → Bool
is_promise d r = is_prepared d r || is_prepare d r

-- Told of this outcome
abbrev pub is_told_of : Case → Outcome → Record → Bool
is_told_of d CommittedOutcome (ToldRecord b CommittedOutcome) = is_branch d b
is_told_of d AbortedOutcome (ToldRecord b AbortedOutcome) = is_branch d b
is_told_of d _ _ = false

-- a child that learnt the commit: Committed, Commit, or Told of it
abbrev pub is_learnt_commit : Case → Record → Bool
is_learnt_commit d r = (is_committed d r || is_commit d r) || is_told_of d CommittedOutcome r

-- a manager that learnt the abort: RolledBack, or Told of it
abbrev pub is_learnt_abort : Case → Record → Bool
is_learnt_abort d r = is_rolled_back d r || is_told_of d AbortedOutcome r

-- the case ended by a commit: Committed or Commit
abbrev pub is_committing : Case → Record → Bool
is_committing d r = is_committed d r || is_commit d r

-- the record is of this kind and case, and names the ticket
abbrev pub is_collecting_naming : Case → Ticket → Record → Bool
is_collecting_naming c t (CollectingRecord d ts) = same_case d c && in_list ts t
is_collecting_naming c t _ = false

-- a Prepare of the case that names the ticket
abbrev pub is_prepare_naming : Case → Ticket → Record → Bool
is_prepare_naming c t (PrepareRecord d ts) = same_case d c && in_list ts t
is_prepare_naming c t _ = false

-- a Commit or Abort of the case that names the ticket
abbrev pub is_decision_naming : Case → Ticket → Record → Bool
is_decision_naming c t (CommitRecord d ts) = same_case d c && in_list ts t
is_decision_naming c t (AbortRecord d ts) = same_case d c && in_list ts t
is_decision_naming c t _ = false

-- a record of the case that names the ticket
abbrev pub is_naming : Case → Ticket → Record → Bool
is_naming c t r = is_collecting_naming c t r || is_prepare_naming c t r || is_decision_naming c t r

-- the kept list of each process
abbrev pub KeptLogs : Type 0
KeptLogs = ProcessId → List Record

-- Whose cases count.

-- the case has a ticket exactly where the role is below the root
abbrev pub has_place : Role → Option Ticket → Bool
has_place AtRoot None = true
has_place (Below p) (Some t) = true
has_place (AtLeaf p) (Some t) = true
has_place _ _ = false

-- the role is the root's
abbrev pub is_root_role : Role → Bool
is_root_role AtRoot = true
is_root_role _ = false

-- the case is of this process in this tree, and of a transaction of the tree's root
abbrev pub is_case_at : List TreeProcess → ProcessId → Case → Bool
is_case_at tree q c =
    (same_process (process_of c) q && has_place (role_of tree q) c.ticket)
    && (is_listed tree c.txn.root && is_root_role (role_of tree c.txn.root))

-- What a case says by itself.

-- an Abort of a coordinator, or a manager's RolledBack or Told of an abort
abbrev pub is_abort_learnt : Case → Record → Bool
is_abort_learnt c r = is_learnt_abort c r || is_abort c r

-- by whether a commit is decided or told, an abort is, and a promise or an End stands: a case with none of
-- these collects votes, and will abort; one that promised, or ended read-only, and no more, asks its parent
abbrev pub decision_by : Bool → Bool → Bool → Option Outcome
decision_by true _ _ = Some Committed
decision_by false true _ = Some Aborted
decision_by false false true = None
decision_by false false false = Some Aborted

-- the records from a manager's last Prepared of the case on, or all if there is none
abbrev pub since_promise : Case → List Record → List Record
since_promise c [] = []
since_promise c (r ∷ rs) = if has (is_prepared c) rs then since_promise c rs else r ∷ rs

-- the case's own decision, or what it was told; none where it is in doubt
abbrev pub own_decision : Case → List Record → Option Outcome
own_decision c rs =
    let kept_of = since_promise c rs in
    decision_by (has (is_learnt_commit c) kept_of) (has (is_abort_learnt c) kept_of)
    (has (is_promise c) kept_of || has (is_end c) kept_of)

-- The recursion upward.

-- the parent's first kept case of the transaction that names the ticket
abbrev pub naming_case : List TreeProcess → ProcessId → Txn → Ticket → List Record → Option Case
naming_case tree p x t rs =
    find (λ c. (same_txn c.txn x && has (is_naming c t) rs) && is_case_at tree p c) (cases_in rs)

-- what that case says; if there is none, the presumption
abbrev pub said_above : (Case → Outcome) → Presumption → Option Case → Outcome
said_above says p None = presumed p
said_above says p (Some c) = says c

-- what the parent says of a case with this ticket; the root has no parent, and aborts what it has not
-- decided
abbrev pub asked_above : (Case → Outcome) → List TreeProcess → KeptLogs → Txn → Option Ticket → Outcome
asked_above says tree logs x None = Aborted
asked_above says tree logs x (Some t) =
    let p = parent_in (role_of tree t.child) t.child in
    said_above says x.presumption (naming_case tree p x t (logs p))

-- a decision, or else this outcome
abbrev pub decided_or : Option Outcome → Outcome → Outcome
decided_or (Some o) _ = o
decided_or None o = o

-- the outcome of a case by a climb of N levels
abbrev pub outcome_within : ℕ → List TreeProcess → KeptLogs → Case → Outcome
outcome_within zero tree logs c = presumed c.txn.presumption
outcome_within (suc k) tree logs c =
    decided_or (own_decision c (logs (process_of c)))
    (asked_above (outcome_within k tree logs) tree logs c.txn c.ticket)

-- the audit's outcome of a case: a tree has no more levels than processes
unfoldable pub audited : List TreeProcess → KeptLogs → Case → Outcome
audited tree logs c = outcome_within (length tree) tree logs c

-- The lines.

-- which cases have a line: the root's with a decision, or with a Collecting that did not end; a cascaded
-- coordinator's that promised; a manager's that promised and was not forgotten
abbrev pub has_line_in : Role → Case → List Record → Bool
has_line_in AtRoot c rs =
    (has (is_commit c) rs || has (is_abort c) rs) || (has (is_collecting c) rs && not (has (is_end c) rs))
has_line_in (Below p) c rs = has (is_prepare c) rs
has_line_in (AtLeaf p) c rs = has (is_prepared c) rs && not (has (is_forgot c) rs)

-- the case has a line in the audit
abbrev pub has_line : List TreeProcess → KeptLogs → Case → Bool
has_line tree logs c =
    is_listed tree (process_of c) && (is_case_at tree (process_of c) c
    && has_line_in (role_of tree (process_of c)) c (since_promise c (logs (process_of c))))

-- its line shows an operator's decision by this outcome, and a mismatch
pub record ShowsMismatch (tree : List TreeProcess) (logs : KeptLogs) (c : Case) (o : Outcome) : Type 0 where
  pub line : has_line tree logs c ≡ true
  pub decided : has (is_decided c o) (since_promise c (logs (process_of c))) ≡ true
  pub differs : o ≢ audited tree logs c

-- What is true of an audit of a world: each line's outcome is the transaction's, and the mismatches that
-- it shows are just those that stand.

-- the kept lists of a world
abbrev pub logs_of_world : World → KeptLogs
logs_of_world w q = kept (w.at q)

-- no process of the tree is failed
abbrev pub AllUp : List TreeProcess → World → Type 0
AllUp tree w = (q : ProcessId) → is_listed tree q ≡ true → (w.at q).failed ≡ false

-- An audit of the kept lists says what is so: the outcomes, and the mismatches that stand, each and no
-- other.
pub record AuditsAreTrue (tree : List TreeProcess) (w : World) : Type 0 where
  pub outcomes : (c : Case) → has_line tree (logs_of_world w) c ≡ true
      → audited tree (logs_of_world w) c ≡ outcome_of w c.txn
  pub mismatches_stand : (c : Case) (o : Outcome) → ShowsMismatch tree (logs_of_world w) c o
      → Mismatch w c o × DecisionStands (w.at (process_of c)) c o
  pub standing_mismatches_show : (c : Case) (o : Outcome) → Mismatch w c o
      → DecisionStands (w.at (process_of c)) c o → ShowsMismatch tree (logs_of_world w) c o
