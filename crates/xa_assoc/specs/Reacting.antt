-- How a branch's state decides what a call on it does.
use Rattle.std.specs.Prelude.{Bool, true, false, Result, Err, if◌then◌else◌}
use Rattle.xa_codes.specs.declared.code.Code.{Code}
use Rattle.xa_words.specs.code
use Rattle.xa_tables.specs.declared.call.Call.{Call}
use Rattle.xa_words.specs.call
use Rattle.xa_tables.specs.declared.states.BranchState.{BranchState}
use Rattle.xa_tables.specs.declared.states.BranchState.TheVariants.{S0, S1, S2, S3, S4, S5}
use Rattle.xa_assoc.specs.Associations.{AssocRow}

-- what a call on a branch does by the branch's state: work goes on in S1 and S2, is lost in S4, and the rest
-- is refused
abbrev pub by_state : BranchState → Result AssocRow Code → Result AssocRow Code → Result AssocRow Code
by_state S0 work lost = Err code.NotA
by_state S1 work lost = work
by_state S2 work lost = work
by_state S3 work lost = Err code.Proto
by_state S4 work lost = lost
by_state S5 work lost = Err code.Proto

-- a branch is at work (in S1 or S2), or its work is lost (in S4)
abbrev pub IsAtWork : Bool → BranchState → Type 0
IsAtWork true S4 = Unit {0}
IsAtWork true _ = ⊥
IsAtWork false S1 = Unit {0}
IsAtWork false S2 = Unit {0}
IsAtWork false _ = ⊥

-- where a resume leads
abbrev pub resumed : Bool → BranchState
resumed lost = if lost then S4 else S1

-- the state of a branch after an end: active while another thread is active in it, and lost where its work
-- failed
abbrev pub left_by : Bool → Bool → BranchState
left_by lost active = if lost then S4 else if active then S1 else S2

-- an end TMSUSPEND, with TMMIGRATE or not
abbrev pub suspend_call : Bool → Call
suspend_call migrate = if migrate then call.EndMigrate else call.EndSuspend

-- an end TMSUCCESS, or else TMFAIL
abbrev pub end_call : Bool → Call
end_call succeeds = if succeeds then call.EndSuccess else call.EndFail
