-- The tables of the interface (this profile's own, drawn after C193, chapter 6): for each state and call
-- every answer and the state after it. A pair without a row has none.
use Rattle.std.specs.Prelude.{Bool, true, false, List, [], ◌∷◌}
use Rattle.xa_codes.specs.declared.code.Code.{Code}
use Rattle.xa_codes.specs.declared.code.Code.TheVariants as code
use Rattle.xa_tables.specs.declared.call.Call.{Call}
use Rattle.xa_tables.specs.declared.call.Call.TheVariants as call
use Rattle.xa_tables.specs.declared.states.InitState.{InitState}
use Rattle.xa_tables.specs.declared.states.InitState.TheVariants.{R0, R1}
use Rattle.xa_tables.specs.declared.states.AssocState.{AssocState}
use Rattle.xa_tables.specs.declared.states.AssocState.TheVariants.{T0, T1, T2, M}
use Rattle.xa_tables.specs.declared.states.BranchState.{BranchState}
use Rattle.xa_tables.specs.declared.states.BranchState.TheVariants.{S0, S1, S2, S3, S4, S5}

-- one answer, and the state after it
abbrev pub one : {S : Type 0} → Code → S → List (Code × S)
one answer to = (answer, to) ∷ []

-- what opens and closes a manager
abbrev pub init_rows : InitState → Call → List (Code × InitState)
init_rows R0 call.Open = one code.Ok R1
init_rows R1 call.Open = one code.Ok R1
init_rows R1 call.Close = one code.Ok R0
init_rows R0 call.Close = one code.Ok R0
init_rows _ _ = []

-- an end of work, well done or in a branch that can only be rolled back
abbrev pub done : List (Code × AssocState)
done = (code.Ok, T0) ∷ (code.RbRollback, T0) ∷ []

-- what a thread does with a branch
abbrev pub assoc_rows : AssocState → Call → List (Code × AssocState)
assoc_rows T0 call.Start = one code.Ok T1
assoc_rows T0 call.StartJoin = one code.Ok T1
assoc_rows T2 call.StartResume = (code.Ok, T1) ∷ (code.RbRollback, T0) ∷ []
assoc_rows M call.StartResume = (code.Ok, T1) ∷ (code.RbRollback, T0) ∷ []
assoc_rows T1 call.EndSuspend = (code.Ok, T2) ∷ (code.RbRollback, T0) ∷ []
assoc_rows T1 call.EndMigrate = (code.Ok, M) ∷ (code.NoMigrate, T2) ∷ (code.RbRollback, T0) ∷ []
assoc_rows T1 call.EndSuccess = done
assoc_rows T2 call.EndSuccess = done
assoc_rows T1 call.EndFail = one code.RbRollback T0
assoc_rows T2 call.EndFail = one code.RbRollback T0
assoc_rows _ _ = []

-- a branch after an end: active while another thread is active in it, else idle
abbrev pub left : List (Code × BranchState)
left = (code.Ok, S1) ∷ (code.Ok, S2) ∷ []

-- a branch after an end for migration, which the manager may refuse: active while another thread is active
-- in it, else idle
abbrev pub moved : List (Code × BranchState)
moved = (code.Ok, S1) ∷ (code.Ok, S2) ∷ (code.NoMigrate, S1) ∷ (code.NoMigrate, S2) ∷ []

-- an operator decided before
abbrev pub heuristic : List (Code × BranchState)
heuristic = (code.HeurHaz, S5) ∷ (code.HeurCom, S5) ∷ (code.HeurRb, S5) ∷ (code.HeurMix, S5) ∷ []

-- a vote: yes, nothing was written, or no
abbrev pub votes : List (Code × BranchState)
votes =
    (code.Ok, S3) ∷ (code.RdOnly, S0) ∷ (code.RbRollback, S0) ∷ (code.RbCommFail, S0) ∷ (code.RbDeadlock, S0)
    ∷ (code.RbIntegrity, S0) ∷ (code.RbOther, S0) ∷ (code.RbProto, S0) ∷ (code.RbTimeout, S0)
    ∷ (code.RbTransient, S0) ∷ []

-- what is done to a branch
abbrev pub branch_rows : BranchState → Call → List (Code × BranchState)
branch_rows S0 call.Start = one code.Ok S1
branch_rows S1 call.StartJoin = one code.Ok S1
branch_rows S1 call.StartResume = one code.Ok S1
branch_rows S2 call.StartJoin = one code.Ok S1
branch_rows S2 call.StartResume = one code.Ok S1
branch_rows S4 call.StartResume = one code.RbRollback S4
branch_rows S1 call.EndSuspend = left
branch_rows S1 call.EndSuccess = left
branch_rows S1 call.EndMigrate = moved
branch_rows S1 call.EndFail = one code.RbRollback S4
branch_rows S2 call.EndSuspend = left
branch_rows S2 call.EndSuccess = left
branch_rows S2 call.EndMigrate = moved
branch_rows S2 call.EndFail = one code.RbRollback S4
branch_rows S4 call.EndSuspend = one code.RbRollback S4
branch_rows S4 call.EndMigrate = one code.RbRollback S4
branch_rows S4 call.EndSuccess = one code.RbRollback S4
branch_rows S4 call.EndFail = one code.RbRollback S4
branch_rows S2 call.Prepare = votes
branch_rows S3 call.Commit = (code.Ok, S0) ∷ heuristic
branch_rows S5 call.Commit = heuristic
branch_rows S2 call.CommitOnePhase = one code.Ok S0
branch_rows S2 call.Rollback = one code.Ok S0
branch_rows S3 call.Rollback = one code.Ok S0
branch_rows S4 call.Rollback = one code.Ok S0
branch_rows S5 call.Rollback = heuristic
branch_rows S5 call.Forget = one code.Ok S0
branch_rows _ _ = []

-- a branch can be rolled back alone: its work is lost
abbrev pub is_spoiled : BranchState → Bool
is_spoiled S4 = true
is_spoiled _ = false

-- a branch is in doubt: prepared, or decided by an operator
abbrev pub is_in_doubt : BranchState → Bool
is_in_doubt S3 = true
is_in_doubt S5 = true
is_in_doubt _ = false
