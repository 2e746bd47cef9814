-- Which calls that finish a branch come to a row of the table, and what refuses the others.
use Rattle.std.specs.Prelude.{◌≡◌, ℕ, Bool, true, false, ◌||◌, not, List, [], ◌∷◌, Option, Some, None, Result, Ok, Err, if◌then◌else◌}
use Rattle.xa_codes.specs.declared.code.Code.{Code}
use Rattle.xa_words.specs.code
use Rattle.xa_tables.specs.Calls.{legal}
use Rattle.xa_tables.specs.Tables.{branch_rows}
use Rattle.xa_tables.specs.declared.call.Call.{Call}
use Rattle.xa_words.specs.call
use Rattle.xa_tables.specs.declared.call.Verb.{Verb}
use Rattle.xa_words.specs.verb
use Rattle.xa_tables.specs.declared.states.BranchState.{BranchState}
use Rattle.xa_tables.specs.declared.states.InitState.{InitState}
use Rattle.xa_tables.specs.declared.states.InitState.TheVariants.{R0, R1}
use Rattle.xa_xid.specs.declared.xid.Xid.{Xid}
use Rattle.xa_xid.specs.Xids.{null_xid}
use Rattle.xa_branch.specs.Branches.{BranchStandsAt, is_known}
use Rattle.xa_branch.specs.Names.{same}
use Rattle.xa_assoc.specs.declared.states.States.{States}
use Rattle.xa_assoc.specs.Answers.{is_held, state_at}

-- a start or an end, which works on an association; each other call on a branch finishes it
abbrev pub is_work_verb : Verb → Bool
is_work_verb verb.Start = true
is_work_verb verb.End = true
is_work_verb _ = false

-- a call begins an association, or takes one up again
abbrev pub is_start : Call → Bool
is_start call.Start = true
is_start call.StartJoin = true
is_start call.StartResume = true
is_start _ = false

-- a call is one on an association: a start or an end
abbrev pub is_work : Call → Bool
is_work call.EndSuspend = true
is_work call.EndMigrate = true
is_work call.EndSuccess = true
is_work call.EndFail = true
is_work c = is_start c

-- an end that takes no memory: of work that is done, or that failed
abbrev pub leaves : Result Call Code → Bool
leaves (Ok call.EndSuccess) = true
leaves (Ok call.EndFail) = true
leaves _ = false

-- a manager is not open
abbrev pub is_closed : InitState → Bool
is_closed R0 = true
is_closed R1 = false

-- a table has a row
abbrev pub has_rows : {S : Type 0} → List (Code × S) → Bool
has_rows [] = false
has_rows (row ∷ rows) = true

-- why a call that finishes a branch is refused: the first check that applies
abbrev pub finish_refusal : States → Call → Xid → Option Code
finish_refusal m c x =
    if is_closed m.init then Some code.Proto
    else if same x null_xid then Some code.Inval
    else if not (is_known m.branches.branches x) then Some code.NotA
    else if is_held m.associations x || not (has_rows (branch_rows (state_at m x) c)) then Some code.Proto
    else None

-- a call, or what refuses it
abbrev pub unless_refused : Option Code → Call → Result Call Code
unless_refused None c = Ok c
unless_refused (Some refusal) c = Err refusal

-- a call that finishes a branch, once its flags are judged
abbrev pub judged : States → Xid → Result Call Code → Result Call Code
judged m x (Ok c) = unless_refused (finish_refusal m c x) c
judged m x (Err refusal) = Err refusal

-- the call that finishes a branch by a row of the table, or what refuses it
abbrev pub ready : States → Verb → Xid → ℕ → Result Call Code
ready m v x flags = judged m x (legal v flags)

-- the call that finishes a branch by a row of the table, with the branch's place and its state
pub record IsReadyCall (m : States) (v : Verb) (x : Xid) (flags : ℕ) (c : Call) (place : ℕ)
    (from : BranchState) : Type 0 where
  pub checked : ready m v x flags ≡ Ok c
  pub stands : BranchStandsAt m.branches.branches x place
  pub state : from ≡ state_at m x
