-- Restart and trim of one process.
use Rattle.std.specs.Prelude.{◌+◌, ℕ, zero, suc, Bool, true, false, not, ◌&&◌, ◌||◌, if◌then◌else◌, Option, Some, None, List, [], ◌∷◌, ◌++◌, take, filter, map, length, reverse}
use Rattle.std.specs.List.{list_any, flat_map}
use Rattle.protocol.specs.declared.names.Case.{Case}
use Rattle.protocol.specs.declared.names.ProcessId.{ProcessId}
use Rattle.protocol.specs.declared.names.Txn.{Txn}
use Rattle.protocol.specs.declared.messages.Message.TheVariants.{Commit, Abort, Inquire}
use Rattle.protocol.specs.declared.messages.Envelope.{Envelope}
use Rattle.protocol.specs.declared.records.BranchName.{BranchName}
use Rattle.protocol.specs.declared.records.BranchName.TheVariants.{Case as CaseBranch}
use Rattle.protocol.specs.declared.records.Record.{Record}
use Rattle.protocol.specs.declared.records.Record.TheVariants.{Opened, Abort as AbortRecord}
use Rattle.protocol.specs.declared.standings.Standing.{Standing}
use Rattle.protocol.specs.declared.standings.Standing.TheVariants.{Unknown, Collecting, Prepared, Committing, Aborting, Heuristic}
use Rattle.protocol.specs.declared.names.Outcome.{Outcome}
use Rattle.protocol.specs.declared.events.Told.{Told}
use Rattle.protocol.specs.Names.{same_txn, root_case}
use Rattle.protocol.specs.Records.{has, is_commit, record_case, record_branch, prepares_branch, cases_in, boot_of, is_reported}
use Rattle.protocol.specs.Nodes.{Role, AtRoot, Below, AtLeaf, Place, Node, kept, Written, Effect, fails_with}
use Rattle.protocol.specs.Memory.{fresh_memory}
use Rattle.protocol.specs.Standings.{CoordinatorView, ManagerView, coordinator_standing, view_at, marked_branch, Mark, Unmarked, Finished, mark_of}
use Rattle.protocol.specs.CoordinatorRows.{Seat, each, up, post}
use Rattle.protocol.specs.Store.{stored, base_records}

-- Views with nothing heard: what records alone say.

-- a coordinator's view of the case
unfoldable pub recorded_view : List Record → Case → CoordinatorView
recorded_view rs c = view_at (coordinator_standing rs c fresh_memory) rs c fresh_memory

-- a manager's view of the case
unfoldable pub recorded_branch : List Record → Case → ManagerView
recorded_branch rs c = marked_branch fresh_memory (mark_of (CaseBranch c) rs)

-- Restart.

-- the log that a crash leaves: the forced front, and N of the records after it
abbrev pub left_of : Node → ℕ → List Record
left_of n k = n.forced ++ take k n.unforced

-- a case that was collecting votes after a record is aborted, and all that it names owe an acknowledgement
abbrev pub restart_abort : Case → CoordinatorView → Standing → List Record
restart_abort c v Collecting = AbortRecord c v.named ∷ []
restart_abort c v _ = []

-- the Abort record of a case that these records leave Collecting; none of any other
abbrev pub aborts_collecting : List Record → Case → List Record
aborts_collecting rs c = let v = recorded_view rs c in restart_abort c v v.standing

-- Opened with the next boot, and an Abort record of each case that these records leave Collecting
abbrev pub coordinator_reopens : List Record → List Record
coordinator_reopens rs = Opened (boot_of rs + 1) ∷ flat_map (aborts_collecting rs) (cases_in rs)

-- the records that a restart appends and forces
abbrev pub reopens : Role → List Record → List Record
reopens (AtLeaf p) rs = Opened (boot_of rs + 1) ∷ []
reopens _ rs = coordinator_reopens rs

-- decisions go out again, and cases in doubt ask
abbrev pub resumes_by : Seat → CoordinatorView → Standing → List Envelope
resumes_by s v Committing = each s Commit v.owed
resumes_by s v Aborting = each s Abort v.owed
resumes_by s v Prepared = up s (Inquire s.own)
resumes_by s v _ = []

-- what a coordinator sends of one case as it restarts with these records
abbrev pub coordinator_resumes : ProcessId → Option ProcessId → List Record → Case → List Envelope
coordinator_resumes me parent rs c =
    let v = recorded_view rs c in resumes_by (record { me = me; parent = parent; own = c }) v v.standing

-- an inquiry, unless the outcome was told
abbrev pub untold_inquiry : ProcessId → ProcessId → Case → Option Outcome → List Envelope
untold_inquiry me p c None = post me p (Inquire c) ∷ []
untold_inquiry me p c (Some o) = []

-- an inquiry where the branch is Prepared, or an operator decided it and the outcome was not told
abbrev pub inquires_by : ProcessId → ProcessId → Case → ManagerView → Standing → List Envelope
inquires_by me p c v Prepared = post me p (Inquire c) ∷ []
inquires_by me p c v Heuristic = untold_inquiry me p c v.told
inquires_by me p c v _ = []

-- what a manager sends of one case as it restarts with these records
abbrev pub manager_resumes : ProcessId → ProcessId → List Record → Case → List Envelope
manager_resumes me p rs c = let v = recorded_branch rs c in inquires_by me p c v v.standing

-- what a restart sends, case by case in order of their first records
abbrev pub resumes : Role → ProcessId → List Record → List Envelope
resumes AtRoot me rs = flat_map (coordinator_resumes me None rs) (cases_in rs)
resumes (Below p) me rs = flat_map (coordinator_resumes me (Some p) rs) (cases_in rs)
resumes (AtLeaf p) me rs = flat_map (manager_resumes me p rs) (cases_in rs)

-- the records, each of them forced
abbrev pub forced_all : List Record → List Written
forced_all rs = map (λ r. record { entry = r; is_forced = true }) rs

-- what a restart does where N unforced records are left
abbrev pub restart_effect : Place → Node → ℕ → Effect
restart_effect place n k =
    let left = left_of n k in
    let new = reopens place.role left in
    record {
      begun = None;
      written = forced_all new;
      told = None;
      messages = resumes place.role place.me (left ++ new);
      accepts = [];
      counts = [];
      remains = None;
    }

-- the application was told how the transaction ended
abbrev pub is_concluded : List Told → Txn → Bool
is_concluded ts x = list_any (λ t. same_txn t.txn x) ts

-- the transaction is undecided where these records are left: it was not concluded for the application, no
-- Commit of it was ever in the forced front, and none is left
abbrev pub is_undecided : Node → List Record → Txn → Bool
is_undecided n left x =
    not (is_concluded n.told x) && (not (has (is_commit (root_case x)) n.durable)
    && not (has (is_commit (root_case x)) left))

-- the transactions, of all that the root ever began, that a restart finds undecided
abbrev pub undecided_at : Role → Node → List Record → List Txn
undecided_at AtRoot n left = filter (is_undecided n left) n.begun
undecided_at _ n left = []

-- what a crash leaves of a process
abbrev pub crashed : Place → Node → ℕ → Node
crashed place n k =
    record n {
      unforced = take k n.unforced;
      heard = [];
      failed = false;
      found_undecided = undecided_at place.role n (left_of n k) ++ n.found_undecided;
    }

-- a process after a restart: all that is kept, and all that was appended, is forced
abbrev pub restarted : Place → Node → ℕ → Node
restarted place n k =
    let c = crashed place n k in
    let new = reopens place.role (kept c) in
    record c {
      forced = kept c ++ new;
      unforced = [];
      life = reverse new ++ c.life;
      durable = new ++ (kept c ++ c.durable);
    }

-- a restart whose device failed
abbrev pub restart_fails : Place → Node → ℕ → ℕ → ℕ → Node
restart_fails place n k appended forced =
    let c = crashed place n k in fails_with c (reopens place.role (kept c)) appended forced

-- Trim.

-- the standing is not Unknown
abbrev pub is_known : Standing → Bool
is_known Unknown = false
is_known _ = true

-- the branch promised, or was decided by an operator, and is not finished
abbrev pub is_open : Mark → Bool
is_open Unmarked = false
is_open Finished = false
is_open _ = true

-- a coordinator's record stays if its case is not forgotten, or what was found of it is reported
abbrev pub case_stays : List Record → Option Case → Bool
case_stays rs None = false
case_stays rs (Some c) = is_known (recorded_view rs c).standing || is_reported rs c

-- a manager's record stays if its branch is not forgotten and was not prepared again after it
abbrev pub branch_stays : List Record → List Record → Option BranchName → Bool
branch_stays rs behind None = false
branch_stays rs behind (Some b) = is_open (mark_of b rs) && not (has (prepares_branch b) behind)

-- a record stays in the log, with these after it: by its branch at a manager, else by its case
abbrev pub stays : Role → List Record → List Record → Record → Bool
stays (AtLeaf p) rs behind r = branch_stays rs behind (record_branch r)
stays _ rs behind r = case_stays rs (record_case r)

-- the records of a log, or of an end of it, that stay
abbrev pub staying : Role → List Record → List Record → List Record
staying role rs [] = []
staying role rs (r ∷ behind) =
    if stays role rs behind r then r ∷ staying role rs behind else staying role rs behind

-- a manager's data as a trim writes them; a coordinator has none
abbrev pub data_records : Role → List Record → List Record
data_records (AtLeaf p) rs = base_records (stored rs)
data_records _ rs = []

-- the log that a trim leaves: the last Opened, the records of the cases that are not forgotten, and a
-- manager's data
unfoldable pub trimmed : Role → List Record → List Record
trimmed role rs = (Opened (boot_of rs) ∷ staying role rs rs) ++ data_records role rs

-- what a trim does: nothing is sent or told, and N records remain
abbrev pub trim_effect : Place → Node → Effect
trim_effect place n =
    record {
      begun = None;
      written = [];
      told = None;
      messages = [];
      accepts = [];
      counts = [];
      remains = Some (length (trimmed place.role (kept n)));
    }

-- one atomic, forced replacement; nothing but the data's records is new in it
abbrev pub trims : Place → Node → Node
trims place n =
    let new = trimmed place.role (kept n) in
    record n {
      forced = new;
      unforced = [];
      life = reverse (data_records place.role (kept n)) ++ n.life;
      durable = new ++ n.durable;
    }

-- a trim whose device failed leaves the old log or the new one
abbrev pub trim_fails : Place → Node → ℕ → Node
trim_fails place n zero = record n { failed = true }
trim_fails place n (suc k) = record (trims place n) { failed = true }
