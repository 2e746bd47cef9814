-- What a call that nothing refuses may be answered, and what it does. Each definition is a table: for an
-- answer, the states that may follow; no state, where the answer is not admitted.
use Rattle.std.specs.Prelude.{ℕ, Bool, true, false, ◌&&◌, ◌||◌, not, List, [], ◌∷◌, ◌++◌, Option, Some, None, if◌then◌else◌}
use Rattle.xa_tables.specs.Calls.{fail, no_wait, one_phase, resume, suspend, join, migrate}
use Rattle.judge_state.specs.declared.parts.JudgedBranch.{JudgedBranch}
use Rattle.judge_state.specs.declared.parts.JudgedDecision.{JudgedDecision}
use Rattle.judge_state.specs.declared.parts.Stand.{Stand}
use Rattle.judge_state.specs.declared.parts.Stand.TheVariants.{Active, Heuristic}
use Rattle.judge_state.specs.Sights.{Sight}
use Rattle.judge_state.specs.Questions.{branch_at, has_suspended}
use Rattle.judge_state.specs.Moves.{begun, committed, decided, gone, linked, marked, migrating, picked, prepared, rolled, stands, unlinked}
use Rattle.judge_rules.specs.declared.calls.BranchVerb.{BranchVerb}
use Rattle.judge_rules.specs.declared.calls.BranchVerb.TheVariants as verb
use Rattle.judge_rules.specs.declared.calls.On.{On}
use Rattle.judge_rules.specs.declared.replies.Reply.{Reply}
use Rattle.judge_rules.specs.declared.replies.Reply.TheVariants as reply
use Rattle.judge_rules.specs.declared.words.Rules.{Rules}
use Rattle.judge_rules.specs.Flags.{has}
use Rattle.judge_rules.specs.Replies.{agrees, decision_in, is_heuristic}
use Rattle.judge_rules.specs.Defects.{is_plain, is_spoiled_at}

-- one state
abbrev pub one : Sight → List Sight
one s = s ∷ []

-- one state, if this holds
abbrev pub one_if : Bool → Sight → List Sight
one_if b s = if b then s ∷ [] else []

-- the branch is there, for a plain start; the thread's own suspended association is taken up, else one that
-- was suspended for migration, for a resume
abbrev pub entered : Sight → On → Sight
entered s o =
    if is_plain o.flags.0 then begun o.thread o.xid.number s
    else if has o.flags.0 join then s
    else if has_suspended o.thread o.xid.number s then unlinked o.thread o.xid.number s
    else picked o.xid.number s

-- a start of a branch at work: the thread is active in it; or the manager has rolled it back, and keeps it as
-- such, or of a new one knows nothing; TMNOWAIT may be told to come again
abbrev pub start_passes : Rules → Sight → On → Sight → Reply → List Sight
start_passes r s o u reply.Ok = one (linked o.thread o.xid.number false u)
start_passes r s o u reply.RolledBack =
    one_if (not r.never.rollback) (marked o.xid.number u)
    ++ one_if (not r.never.rollback && is_plain o.flags.0) s
start_passes r s o u reply.Retry = one_if (has o.flags.0 no_wait) s
start_passes r s o u _ = []

-- a resume of a branch that can only be rolled back takes up the association, and tells so
abbrev pub spoiled_passes : Sight → On → Sight → Reply → List Sight
spoiled_passes s o u reply.RolledBack = one u
spoiled_passes s o u reply.Retry = one_if (has o.flags.0 no_wait) s
spoiled_passes s o u _ = []

-- the association that an end leaves: suspended for migration, suspended, or none
abbrev pub left : On → Sight → Sight
left o u =
    if has o.flags.0 suspend
    then (if has o.flags.0 migrate then migrating o.xid.number u else linked o.thread o.xid.number true u)
    else u

-- an end in a branch at work: the association is gone, or suspended; told that the branch was rolled back,
-- for TMFAIL or of the manager's own will; after TMFAIL told XA_OK it may still be prepared; a manager that
-- does not migrate suspends
abbrev pub end_passes : Rules → On → Sight → Reply → List Sight
end_passes r o u reply.Ok = one (left o u)
end_passes r o u reply.RolledBack = one_if (has o.flags.0 fail || not r.never.rollback)
    (marked o.xid.number u)
end_passes r o u reply.NoMigrate =
    one_if (has o.flags.0 migrate && has o.flags.0 suspend) (linked o.thread o.xid.number true u)
end_passes r o u _ = []

-- the association that an end leaves with a branch that can only be rolled back
abbrev pub left_spoiled : On → Sight → Sight
left_spoiled o u = if has o.flags.0 suspend then linked o.thread o.xid.number true u else u

-- an end in a branch that can only be rolled back
abbrev pub end_spoiled : On → Sight → Reply → List Sight
end_spoiled o u reply.Ok = one (left_spoiled o u)
end_spoiled o u reply.RolledBack = one u
end_spoiled o u _ = []

-- a vote: yes; nothing was changed, and the branch is ended; no
abbrev pub prepare_passes : Rules → Sight → ℕ → Reply → List Sight
prepare_passes r s x reply.Ok = one (prepared x s)
prepare_passes r s x reply.RdOnly = one (committed x s)
prepare_passes r s x reply.RolledBack = one_if (not r.never.rollback) (gone x s)
prepare_passes r s x _ = []

-- a decision is told that was not the operator's
abbrev pub own_decision : Rules → Sight → ℕ → Reply → List Sight
own_decision r s x a = one_if (is_heuristic a && not r.never.heuristics) (decided x (decision_in a) s)

-- a commit: done; in one phase the branch may have been rolled back, in two the call may be made again
abbrev pub commit_passes : Rules → Sight → On → Reply → List Sight
commit_passes r s o reply.Ok = one (committed o.xid.number s)
commit_passes r s o reply.RolledBack =
    one_if (has o.flags.0 one_phase && not r.never.rollback) (gone o.xid.number s)
commit_passes r s o reply.Retry = one_if (not (has o.flags.0 one_phase)) s
commit_passes r s o a = own_decision r s o.xid.number a

-- a rollback: done
abbrev pub rollback_passes : Rules → Sight → ℕ → Reply → List Sight
rollback_passes r s x reply.Ok = one (rolled x s)
rollback_passes r s x reply.RolledBack = one (rolled x s)
rollback_passes r s x a = own_decision r s x a

-- a commit or rollback of a branch that was decided: what is known of the decision is told
abbrev pub decided_passes : Sight → ℕ → JudgedDecision → Reply → List Sight
decided_passes s x d a = one_if (is_heuristic a && agrees d (decision_in a))
    (stands x (Heuristic (decision_in a)) s)

-- a forget: the branch is known no longer
abbrev pub forget_passes : Sight → ℕ → Reply → List Sight
forget_passes s x reply.Ok = one (gone x s)
forget_passes s x _ = []

-- a commit or rollback, by how the branch stands
abbrev pub decide_passes : Rules → BranchVerb → Sight → On → Stand → Reply → List Sight
decide_passes r v s o (Heuristic d) a = decided_passes s o.xid.number d a
decide_passes r verb.Commit s o _ a = commit_passes r s o a
decide_passes r v s o _ a = rollback_passes r s o.xid.number a

-- the stand of a branch that is known
abbrev pub stand_in : Option JudgedBranch → Stand
stand_in None = Active
stand_in (Some b) = b.stand

-- a call on a branch
abbrev pub branch_passes : Rules → BranchVerb → Sight → On → Reply → List Sight
branch_passes r verb.Start s o a =
    if has o.flags.0 resume && is_spoiled_at (branch_at o.xid.number s)
    then spoiled_passes s o (entered s o) a
    else start_passes r s o (entered s o) a
branch_passes r verb.End s o a =
    if is_spoiled_at (branch_at o.xid.number s) then end_spoiled o (unlinked o.thread o.xid.number s) a
    else end_passes r o (unlinked o.thread o.xid.number s) a
branch_passes r verb.Prepare s o a = prepare_passes r s o.xid.number a
branch_passes r verb.Forget s o a = forget_passes s o.xid.number a
branch_passes r v s o a = decide_passes r v s o (stand_in (branch_at o.xid.number s)) a
