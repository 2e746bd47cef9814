-- The calls of the interface: which flags are legal at a verb, and which call they make (after C193, chapter
-- 5).
use Rattle.std.specs.Prelude.{ℕ, ◌+◌, ◌-◌, ◌||◌, ◌==◌, nat_lt, if◌then◌else◌, Option, Some, None, Result, Ok, Err}
use Rattle.xa_codes.specs.declared.code.Code.{Code}
use Rattle.xa_codes.specs.declared.code.Code.TheVariants.{Async, Inval}
use Rattle.xa_tables.specs.declared.call.Verb.{Verb}
use Rattle.xa_tables.specs.declared.call.Call.{Call}
use Rattle.xa_tables.specs.declared.call.Verb.TheVariants as verb
use Rattle.xa_tables.specs.declared.call.Call.TheVariants as call

-- no flag
abbrev pub none : ℕ
none = 0

-- TMASYNC
abbrev pub async : ℕ
async = 0x8000_0000

-- TMONEPHASE
abbrev pub one_phase : ℕ
one_phase = 0x4000_0000

-- TMFAIL
abbrev pub fail : ℕ
fail = 0x2000_0000

-- TMNOWAIT
abbrev pub no_wait : ℕ
no_wait = 0x1000_0000

-- TMRESUME
abbrev pub resume : ℕ
resume = 0x0800_0000

-- TMSUCCESS
abbrev pub success : ℕ
success = 0x0400_0000

-- TMSUSPEND
abbrev pub suspend : ℕ
suspend = 0x0200_0000

-- TMSTARTRSCAN
abbrev pub start_scan : ℕ
start_scan = 0x0100_0000

-- TMENDRSCAN
abbrev pub end_scan : ℕ
end_scan = 0x0080_0000

-- TMJOIN
abbrev pub join : ℕ
join = 0x0020_0000

-- TMMIGRATE
abbrev pub migrate : ℕ
migrate = 0x0010_0000

-- a start may join or resume, not both, and may say that it does not wait
abbrev pub start_of : ℕ → Option Call
start_of flags =
    if flags == none || flags == no_wait then Some call.Start
    else if flags == join || flags == join + no_wait then Some call.StartJoin
    else if flags == resume || flags == resume + no_wait then Some call.StartResume
    else None

-- an end suspends, succeeds or fails, just one of these, and migrates only where it suspends
abbrev pub end_of : ℕ → Option Call
end_of flags =
    if flags == suspend then Some call.EndSuspend
    else if flags == suspend + migrate then Some call.EndMigrate
    else if flags == success then Some call.EndSuccess
    else if flags == fail then Some call.EndFail
    else None

-- a commit may have one phase, and may say that it does not wait
abbrev pub commit_of : ℕ → Option Call
commit_of flags =
    if flags == none || flags == no_wait then Some call.Commit
    else if flags == one_phase || flags == one_phase + no_wait then Some call.CommitOnePhase
    else None

-- a recover may start a scan and may end it
abbrev pub recover_of : ℕ → Option Call
recover_of flags =
    if flags == none then Some call.Recover
    else if flags == start_scan then Some call.RecoverStart
    else if flags == end_scan then Some call.RecoverEnd
    else if flags == start_scan + end_scan then Some call.RecoverWhole
    else None

-- the other verbs take no flag
abbrev pub plain_of : Call → ℕ → Option Call
plain_of call flags = if flags == none then Some call else None

-- the call of a verb with these flags, TMASYNC not being among them
abbrev pub call_of : Verb → ℕ → Option Call
call_of verb.Open flags = plain_of call.Open flags
call_of verb.Close flags = plain_of call.Close flags
call_of verb.Start flags = start_of flags
call_of verb.End flags = end_of flags
call_of verb.Prepare flags = plain_of call.Prepare flags
call_of verb.Commit flags = commit_of flags
call_of verb.Rollback flags = plain_of call.Rollback flags
call_of verb.Forget flags = plain_of call.Forget flags
call_of verb.Recover flags = recover_of flags

-- flags with TMASYNC among them: refused as such where the others are legal
abbrev pub refused_async : Option Call → Result Call Code
refused_async None = Err Inval
refused_async (Some call) = Err Async

-- flags that make no call by themselves: TMASYNC is named where it is beside legal flags, and recover
-- does not take it
abbrev pub refused : Verb → ℕ → Result Call Code
refused verb.Recover flags = Err Inval
refused verb flags = if nat_lt flags async then Err Inval else refused_async (call_of verb (flags - async))

-- a call, or the answer that refuses it
abbrev pub call_or : Option Call → Result Call Code → Result Call Code
call_or None refusal = refusal
call_or (Some call) refusal = Ok call

-- the call that a verb and its flags make, or the answer that refuses them
abbrev pub legal : Verb → ℕ → Result Call Code
legal verb flags = call_or (call_of verb flags) (refused verb flags)
