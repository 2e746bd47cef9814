-- Failures, restarts and lost connections.
use Rattle.std.specs.Prelude.{ℕ, Bool, true, false, ◌&&◌, ◌||◌, not, ◌==◌, List, [], ◌∷◌, ◌++◌, map, filter, is_some, if◌then◌else◌, fold}
use Rattle.judge_state.specs.declared.parts.JudgedBranch.{JudgedBranch}
use Rattle.judge_state.specs.declared.parts.Stand.{Stand}
use Rattle.judge_state.specs.declared.parts.Stand.TheVariants.{Heuristic}
use Rattle.judge_state.specs.declared.parts.Work.{Work}
use Rattle.judge_state.specs.Parts.{is_at_work}
use Rattle.judge_state.specs.Sights.{Sight}
use Rattle.judge_state.specs.Questions.{branch_at, has_link}
use Rattle.judge_state.specs.Moves.{brought_back, committed, cut_off, fallen, gone, marked, prepared, restarted, rolled, unlinked}
use Rattle.judge_rules.specs.declared.calls.BranchVerb.{BranchVerb}
use Rattle.judge_rules.specs.declared.calls.BranchVerb.TheVariants as verb
use Rattle.judge_rules.specs.declared.calls.On.{On}
use Rattle.judge_rules.specs.declared.replies.Reply.{Reply}
use Rattle.judge_rules.specs.declared.replies.Reply.TheVariants as reply
use Rattle.judge_rules.specs.declared.words.Rules.{Rules}
use Rattle.judge_rules.specs.Passes.{one, stand_in}

-- a call fails: nothing changed
abbrev pub failed_rows : Sight → Reply → List Sight
failed_rows s reply.RmErr = one s
failed_rows s reply.RmFail = s ∷ fallen s ∷ []
failed_rows s _ = []

-- a call fails, if the manager may fail
abbrev pub failed : Rules → Sight → Reply → List Sight
failed r s a = if r.never.failures then [] else failed_rows s a

-- what a call on a branch that fails may have done nevertheless
abbrev pub half_done : BranchVerb → Sight → On → List Sight
half_done verb.Start s o = []
half_done verb.End s o = one (unlinked o.thread o.xid.number s)
half_done verb.Prepare s o = prepared o.xid.number s ∷ gone o.xid.number s ∷ []
half_done verb.Commit s o = one (gone o.xid.number s)
half_done verb.Rollback s o = one (rolled o.xid.number s)
half_done verb.Forget s o = []

-- what a call on a branch may have done besides, if the manager failed
abbrev pub done_failing : BranchVerb → Sight → On → List Sight
done_failing verb.Start s o = []
done_failing verb.End s o = one (marked o.xid.number (unlinked o.thread o.xid.number s))
done_failing verb.Prepare s o = []
done_failing verb.Commit s o = one (committed o.xid.number s)
done_failing verb.Rollback s o = []
done_failing verb.Forget s o = one (gone o.xid.number s)

-- a branch is decided, and stays so whatever fails
abbrev pub is_decided : BranchVerb → Stand → Bool
is_decided verb.Commit (Heuristic d) = true
is_decided verb.Rollback (Heuristic d) = true
is_decided _ _ = false

-- what a failing call may have done, by its answer
abbrev pub effects_rows : BranchVerb → Sight → On → Reply → List Sight
effects_rows v s o reply.RmErr = half_done v s o
effects_rows v s o reply.RmFail = half_done v s o ++ done_failing v s o
effects_rows v s o _ = []

-- what a call that nothing refuses may have done where it fails
abbrev pub effects : Rules → BranchVerb → Sight → On → Reply → List Sight
effects r v s o a =
    if r.never.failures || is_decided v (stand_in (branch_at o.xid.number s)) then []
    else effects_rows v s o a

-- a branch that was lost is back in some of the states
abbrev pub maybe_back : List Work → List Sight → JudgedBranch → List Sight
maybe_back ws us b = us ++ map (brought_back b ws) us

-- the branches that were lost, and whose names are free
abbrev pub may_return : Sight → List JudgedBranch → List JudgedBranch
may_return u bs = filter (λ b. not (is_some (branch_at b.name u))) bs

-- the states after a restart: where what ends a branch is not forced, and some is cut off, any branch that
-- left S3 may be back in it
abbrev pub after_restart : Rules → Bool → Sight → List Sight
after_restart r cut s =
    if cut && r.lacks.forced
    then fold (maybe_back s.lost_works) (one (restarted s)) (may_return (restarted s) s.lost)
    else one (restarted s)

-- a branch at work that hangs on a thread: the thread began it, or is associated with it
abbrev pub hangs_on : ℕ → Sight → JudgedBranch → Bool
hangs_on t s b = is_at_work b && (b.owner == t || has_link t b.name s)

-- a branch may stay, be gone, or be one that can only be rolled back
abbrev pub maybe_gone : List Sight → JudgedBranch → List Sight
maybe_gone us b = us ++ map (gone b.name) us ++ map (marked b.name) us

-- the states after the connection of a thread is gone
abbrev pub after_cut : ℕ → Sight → List Sight
after_cut t s = fold maybe_gone (one (cut_off t s)) (filter (hangs_on t s) s.branches)
