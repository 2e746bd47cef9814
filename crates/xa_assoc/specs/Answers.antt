-- What each call answers, and what it changes of a manager's tables (C193, chapters 3 and 6).
use Rattle.std.specs.Prelude.{◌≡◌, ℕ, Bool, true, false, ◌||◌, not, List, [], Some, Result, Ok, Err, MatchResult, is_some, length, nat_le, nat_lt, Contains, if◌then◌else◌}
use Rattle.std.specs.Global.{Vec}
use Rattle.xa_codes.specs.declared.code.Code.{Code}
use Rattle.xa_words.specs.code
use Rattle.xa_tables.specs.Calls.{legal}
use Rattle.xa_tables.specs.Tables.{branch_rows}
use Rattle.xa_tables.specs.declared.call.Call.{Call}
use Rattle.xa_tables.specs.declared.call.Call.TheVariants as call
use Rattle.xa_tables.specs.declared.call.Verb.{Verb}
use Rattle.xa_words.specs.verb
use Rattle.xa_tables.specs.declared.states.InitState.TheVariants.{R0, R1}
use Rattle.xa_tables.specs.declared.states.BranchState.{BranchState}
use Rattle.xa_tables.specs.declared.states.BranchState.TheVariants.{S0, S1, S2, S3, S4, S5}
use Rattle.xa_xid.specs.declared.xid.Xid.{Xid}
use Rattle.xa_xid.specs.Xids.{null_xid}
use Rattle.xa_assoc.specs.Associations.{AssocList, IsBare, AssocRow, AssocMoves, active_of, has_seat, has_active, has_suspended, moved_of, start_plan, resume_plan, suspend_plan, end_plan}
use Rattle.xa_branch.specs.Branches.{BranchMoves, Stays, ScansBranches, begin_answer, scan_refusal, is_known, state_in, off_row}
use Rattle.xa_assoc.specs.declared.states.States.{States}
use Rattle.xa_assoc.specs.Reacting.{by_state, left_by, resumed, suspend_call, end_call}

-- nothing changes but room
pub record SameStates (old new : States) : Type 0 where
  pub init : new.init ≡ old.init
  pub branches : Stays old.branches new.branches
  pub associations : new.associations ≡ old.associations

-- a call made a row of the table of associations, and one of the table of branches that leads to a state
pub record Walks (old new : States) (t : ℕ) (x : Xid) (call : Call) (row : AssocRow) (to : BranchState)
    (answer : Code) : Type 0 where
  pub answers : answer ≡ row.1
  pub association : AssocMoves old.associations new.associations t x row.0 row.2
  pub listed : Contains (branch_rows (state_in old.branches.branches x) call) (answer, to)
  pub branch : BranchMoves old.branches new.branches x to
  pub init : new.init ≡ old.init

-- a call made a row of each table that it touches, of the associations this one and of the branches the one
-- that leads to a state, or was refused and changed nothing
abbrev pub ReactsByRows : States → States → ℕ → Xid → Call → Result AssocRow Code → BranchState → Code
    → Type 0
ReactsByRows old new t x call plan to answer = MatchResult plan
    (λ row. Walks old new t x call row to answer)
    (λ refusal. (answer ≡ refusal) × SameStates old new)

-- the state of a branch after an end, by the manager's tables: active while another thread is active in it,
-- and lost if its work failed
abbrev pub left_state : States → Xid → Bool → BranchState
left_state m x lost = left_by lost (has_active m.associations x)

-- a branch is held: a thread is active in it or has suspended it, or it is suspended for migration
abbrev pub is_held : AssocList → Xid → Bool
is_held a x = has_active a x || has_suspended a x || nat_lt 0 (moved_of a x)

-- the state of a branch
abbrev pub state_at : States → Xid → BranchState
state_at m x = state_in m.branches.branches x

-- a start of a new branch: which row applies, or the first refusal
abbrev pub start_reaction : States → ℕ → Xid → Result AssocRow Code
start_reaction m t x =
    if is_known m.branches.branches x then Err code.DupId
    else if is_some (active_of m.associations t) || has_seat m.associations t x then Err code.Proto
    else if nat_le 1024 (length m.branches.branches) then Err code.RmErr
    else start_plan m.associations t x

-- a start TMJOIN
abbrev pub join_reaction : States → ℕ → Xid → Result AssocRow Code
join_reaction m t x = by_state (state_at m x) (start_plan m.associations t x) (Err code.Proto)

-- what is done by a branch's state: unknown, at work or lost, or neither
abbrev pub ByState : BranchState → Type 0 → (Bool → Type 0) → Type 0 → Type 0
ByState S0 unknown does off = unknown
ByState S1 unknown does off = does false
ByState S2 unknown does off = does false
ByState S3 unknown does off = off
ByState S4 unknown does off = does true
ByState S5 unknown does off = off

-- a call was refused by this answer, and changed nothing
abbrev pub RefusesCall : States → States → Code → Code → Type 0
RefusesCall old new answer refusal = (answer ≡ refusal) × SameStates old new

-- a start TMRESUME
abbrev pub Resumes : States → States → ℕ → Xid → Code → Type 0
Resumes old new t x answer =
    ByState (state_at old x) (RefusesCall old new answer code.NotA)
    (λ lost. ReactsByRows old new t x call.StartResume
    (resume_plan old.associations t x lost) (resumed lost) answer)
    (RefusesCall old new answer code.Proto)

-- an end TMSUSPEND, with TMMIGRATE or not
abbrev pub Suspends : States → States → ℕ → Xid → Bool → Code → Type 0
Suspends old new t x migrate answer =
    ByState (state_at old x) (RefusesCall old new answer code.NotA)
    (λ lost. ReactsByRows old new t x (suspend_call migrate)
    (suspend_plan old.associations t x lost migrate) (left_state new x lost) answer)
    (RefusesCall old new answer code.Proto)

-- an end TMSUCCESS, or else TMFAIL
abbrev pub EndsWork : States → States → ℕ → Xid → Bool → Code → Type 0
EndsWork old new t x succeeds answer =
    ByState (state_at old x) (RefusesCall old new answer code.NotA)
    (λ lost. ReactsByRows old new t x (end_call succeeds)
    (end_plan old.associations t x lost succeeds) (left_state new x (lost || not succeeds)) answer)
    (RefusesCall old new answer code.Proto)

-- one branch made a row that leads to a state, and nothing else changes
pub record TakesTableRow (old new : States) (x : Xid) (to : BranchState) : Type 0 where
  pub branch : BranchMoves old.branches new.branches x to
  pub associations : new.associations ≡ old.associations
  pub init : new.init ≡ old.init

-- whether a branch began that no thread is in; one that did not, as it is known or 1,024 are, changed nothing
abbrev pub BeginsIdle : States → States → Xid → Bool → Type 0
BeginsIdle old new x true = (begin_answer old.branches.branches x ≡ code.Ok) × TakesTableRow old new x S2
BeginsIdle old new x false = (begin_answer old.branches.branches x ≡ code.Ok → ⊥) × SameStates old new

-- the row that a manager takes for each call that finishes a branch: what it answers, and the state after it
abbrev pub Wanted : Type 0
Wanted = Call → Code × BranchState

-- a prepare, commit, rollback or forget for which the manager takes this row: NotA, then Proto, come first
pub record TablesFinish (old new : States) (x : Xid) (call : Call) (wanted : Code × BranchState)
    (answer : Code) : Type 0 where
  pub unknown : is_known old.branches.branches x ≡ false → RefusesCall old new answer code.NotA
  pub held : is_known old.branches.branches x ≡ true → is_held old.associations x ≡ true
      → RefusesCall old new answer code.Proto
  pub row : is_known old.branches.branches x ≡ true → is_held old.associations x ≡ false
      → Contains (branch_rows (state_at old x) call) wanted → (answer ≡ wanted.0)
      × TakesTableRow old new x wanted.1
  pub off : is_known old.branches.branches x ≡ true → is_held old.associations x ≡ false
      → (Contains (branch_rows (state_at old x) call) wanted → ⊥) → RefusesCall old new answer (off_row call)

-- a manager that is not open, without branches, scans and associations
pub record AreNewStates (m : States) : Type 0 where
  pub init : m.init ≡ R0
  pub branches : m.branches.branches ≡ []
  pub scans : m.branches.scans ≡ []
  pub associations : IsBare m.associations
  pub seats : m.associations.seats ≡ []

-- an open that is legal answers XA_OK and leaves the manager open: where it was not, without associations
pub record Opened (old new : States) (migrates : Bool) (answer : Code) : Type 0 where
  pub answers : answer ≡ code.Ok
  pub init : new.init ≡ R1
  pub branches : new.branches ≡ old.branches
  pub again : old.init ≡ R1 → new ≡ old
  pub anew : old.init ≡ R0 → IsBare new.associations × (new.associations.seats ≡ [])
      × (new.associations.migrates ≡ migrates)

-- an open by its flags: refused, or made
abbrev pub OpensManager : States → States → ℕ → Bool → Code → Type 0
OpensManager old new flags migrates answer = MatchResult (legal verb.Open flags)
    (λ _. Opened old new migrates answer) (λ refusal. (answer ≡ refusal) × (new ≡ old))

-- a close that is legal is refused while there is an association, and else closes the manager
pub record Closed (old new : States) (answer : Code) : Type 0 where
  pub held : (IsBare old.associations → ⊥) → (answer ≡ code.Proto) × (new ≡ old)
  pub done : IsBare old.associations → (answer ≡ code.Ok) × (new.init ≡ R0) × (new.branches ≡ old.branches)
      × (new.associations ≡ old.associations)

-- a close by its flags: refused, or made
abbrev pub Closes : States → States → ℕ → Code → Type 0
Closes old new flags answer = MatchResult (legal verb.Close flags)
    (λ _. Closed old new answer) (λ refusal. (answer ≡ refusal) × (new ≡ old))

-- a call on a branch of an open manager, by a name that is not null
abbrev pub DoesCall : Wanted → States → States → Call → ℕ → Xid → Code → Type 0
DoesCall wanted old new call.Start t x answer =
    ReactsByRows old new t x call.Start (start_reaction old t x) S1 answer
DoesCall wanted old new call.StartJoin t x answer =
    ReactsByRows old new t x call.StartJoin (join_reaction old t x) S1 answer
DoesCall wanted old new call.StartResume t x answer = Resumes old new t x answer
DoesCall wanted old new call.EndSuspend t x answer = Suspends old new t x false answer
DoesCall wanted old new call.EndMigrate t x answer = Suspends old new t x true answer
DoesCall wanted old new call.EndSuccess t x answer = EndsWork old new t x true answer
DoesCall wanted old new call.EndFail t x answer = EndsWork old new t x false answer
DoesCall wanted old new c t x answer = TablesFinish old new x c (wanted c) answer

-- the checks before a call on a branch, in their order: not open, then the null name
pub record Checked (wanted : Wanted) (old new : States) (c : Call) (t : ℕ) (x : Xid)
    (answer : Code) : Type 0 where
  pub closed : old.init ≡ R0 → RefusesCall old new answer code.Proto
  pub null : old.init ≡ R1 → x ≡ null_xid → RefusesCall old new answer code.Inval
  pub does : old.init ≡ R1 → (x ≡ null_xid → ⊥) → DoesCall wanted old new c t x answer

-- what a call on a branch answers and changes: illegal flags and TMASYNC are refused before all else
abbrev pub AnswersCall : Wanted → States → States → Verb → ℕ → Xid → ℕ → Code → Type 0
AnswersCall wanted old new v t x flags answer = MatchResult (legal v flags)
    (λ c. Checked wanted old new c t x answer) (λ refusal. RefusesCall old new answer refusal)

-- an answer, with the branches that a recover gives as a list
abbrev pub map_ok : Result (Vec Xid) Code → Result (List Xid) Code
map_ok (Ok v) = Ok v.items
map_ok (Err e) = Err e

-- what a recover gives: its flags, then an open manager, then a scan
pub record Scanned (old new : States) (t count : ℕ) (c : Call)
    (answer : Result (List Xid) Code) : Type 0 where
  pub closed : old.init ≡ R0 → (answer ≡ Err code.Proto) × SameStates old new
  pub given : old.init ≡ R1 → MatchResult answer
      (λ given. ScansBranches old.branches new.branches t count c given
      × (new.associations ≡ old.associations)
      × (new.init ≡ old.init))
      (λ refusal. (scan_refusal old.branches.scans t c ≡ Some refusal) × SameStates old new)

-- a recover by its flags: refused, or made
abbrev pub Recovers : States → States → ℕ → ℕ → ℕ → Result (List Xid) Code → Type 0
Recovers old new t count flags answer = MatchResult (legal verb.Recover flags)
    (λ c. Scanned old new t count c answer) (λ refusal. (answer ≡ Err refusal) × SameStates old new)
