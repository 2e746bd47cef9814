-- Which states may follow a state, by a call and its answer.
use Rattle.std.specs.Prelude.{ℕ, Bool, true, false, not, List, [], ◌++◌, if◌then◌else◌}
use Rattle.judge_state.specs.declared.parts.JudgedDecision.{JudgedDecision}
use Rattle.judge_state.specs.declared.parts.JudgedDecision.TheVariants as decision
use Rattle.judge_state.specs.Sights.{Sight}
use Rattle.judge_state.specs.Questions.{active_of}
use Rattle.judge_state.specs.Moves.{decided, hung, is_prepared_at, opened}
use Rattle.judge_rules.specs.declared.calls.JudgedAnswer.{JudgedAnswer}
use Rattle.judge_rules.specs.declared.calls.JudgedAnswer.TheVariants as answer
use Rattle.judge_rules.specs.declared.calls.BranchVerb.{BranchVerb}
use Rattle.judge_rules.specs.declared.calls.JudgedCall.{JudgedCall}
use Rattle.judge_rules.specs.declared.calls.JudgedCall.TheVariants as call
use Rattle.judge_rules.specs.declared.calls.Function.{Function}
use Rattle.judge_rules.specs.declared.calls.Function.TheVariants as function
use Rattle.judge_rules.specs.declared.calls.On.{On}
use Rattle.judge_rules.specs.declared.defects.Refusals.{Refusals}
use Rattle.judge_rules.specs.declared.replies.Reply.{Reply}
use Rattle.judge_rules.specs.declared.replies.Reply.TheVariants as reply
use Rattle.judge_rules.specs.declared.words.Rules.{Rules}
use Rattle.judge_rules.specs.Replies.{is_among, is_defective, reply_of}
use Rattle.judge_rules.specs.Defects.{branch_defects, branch_excuses, close_defects, open_defects, recover_defects, recover_excuses}
use Rattle.judge_rules.specs.Passes.{branch_passes, one, one_if}
use Rattle.judge_rules.specs.Falls.{after_cut, after_restart, effects, failed}
use Rattle.judge_rules.specs.Scans.{given_rows, read_rows, write_row}

-- a call on a branch: refused by the code of a defect, if it has one; else what it does, or may have done
-- where it fails
abbrev pub by_defects : Rules → BranchVerb → Sight → On → Reply → List Sight
by_defects r v s o a =
    if is_defective (branch_defects r v s o) then one_if (is_among (branch_defects r v s o) a) s
    else branch_passes r v s o a ++ effects r v s o a

-- besides, what excuses a refusal, and failures that change nothing
abbrev pub branch_rows : Rules → BranchVerb → Sight → On → Reply → List Sight
branch_rows r v s o a =
    one_if (is_among (branch_excuses r v s o) a) s ++ failed r s a ++ by_defects r v s o a

-- an open or a close may not fail as a whole
abbrev pub may_fail : Reply → Bool
may_fail reply.RmFail = false
may_fail _ = true

-- an open or a close that nothing refuses
abbrev pub open_passes : Bool → Sight → Reply → List Sight
open_passes o s reply.Ok = one (opened o s)
open_passes o s _ = []

-- an open or a close
abbrev pub open_rows : Rules → Refusals → Bool → Sight → Reply → List Sight
open_rows r d o s a =
    (if may_fail a then failed r s a else [])
    ++ (if is_defective d then one_if (is_among d a) s else open_passes o s a)

-- a recover that is answered by a code
abbrev pub recover_rows : Rules → Sight → ℕ → ℕ → Reply → List Sight
recover_rows r s t f a =
    one_if (is_among (recover_excuses r s t f) a) s ++ failed r s a
    ++ one_if (is_among (recover_defects r s t f) a) s

-- a call without an answer waits: not one that must be refused
abbrev pub waits : Refusals → Sight → List Sight
waits d s = one_if (not (is_defective d)) (hung s)

-- a call on a branch, by its answer
abbrev pub branch_next : Rules → BranchVerb → Sight → On → JudgedAnswer → List Sight
branch_next r v s o (answer.Code c) = branch_rows r v s o (reply_of c)
branch_next r v s o answer.Hung = waits (branch_defects r v s o) s
branch_next r v s o _ = []

-- an open or a close, by its answer
abbrev pub open_next : Rules → Refusals → Bool → Sight → JudgedAnswer → List Sight
open_next r d o s (answer.Code c) = open_rows r d o s (reply_of c)
open_next r d o s answer.Hung = waits d s
open_next r d o s _ = []

-- a recover, by its answer
abbrev pub recover_next : Rules → Sight → ℕ → ℕ → ℕ → JudgedAnswer → List Sight
recover_next r s t count f (answer.Code c) = recover_rows r s t f (reply_of c)
recover_next r s t count f (answer.Given xs) =
    if is_defective (recover_defects r s t f) then [] else given_rows r s t count f xs.items
recover_next r s t count f answer.Hung = waits (recover_defects r s t f) s
recover_next r s t count f _ = []

-- a read, by its answer: what is refused has no effect
abbrev pub get_next : Rules → Sight → ℕ → ℕ → JudgedAnswer → List Sight
get_next r s t k (answer.Found v) = read_rows r (active_of t s) t k v s
get_next r s t k answer.Refused = one s
get_next r s t k (answer.Code c) = one s
get_next r s t k answer.Hung = one (hung s)
get_next r s t k _ = []

-- a write, by its answer
abbrev pub put_next : Sight → ℕ → ℕ → ℕ → JudgedAnswer → List Sight
put_next s t k v answer.Done = one (write_row (active_of t s) t k v s)
put_next s t k v answer.Refused = one s
put_next s t k v (answer.Code c) = one s
put_next s t k v answer.Hung = one (hung s)
put_next s t k v _ = []

-- what an operator decides
abbrev pub outcome : Bool → JudgedDecision
outcome commits = if commits then decision.Commit else decision.Rollback

-- an operator's decision, by its answer: of a prepared branch alone
abbrev pub decide_next : Sight → ℕ → Bool → JudgedAnswer → List Sight
decide_next s x commits answer.Done = one_if (is_prepared_at x s) (decided x (outcome commits) s)
decide_next s x commits answer.Refused = one s
decide_next s x commits (answer.Code c) = one s
decide_next s x commits answer.Hung = one (hung s)
decide_next s x commits _ = []

-- an answer came
abbrev pub is_answered : JudgedAnswer → Bool
is_answered answer.Hung = false
is_answered _ = true

-- a restart: the answer tells nothing but that it came
abbrev pub restart_next : Rules → Bool → Sight → JudgedAnswer → List Sight
restart_next r cut s a = if is_answered a then after_restart r cut s else one (hung s)

-- a lost connection
abbrev pub disconnect_next : ℕ → Sight → JudgedAnswer → List Sight
disconnect_next t s a = if is_answered a then after_cut t s else one (hung s)

-- a trim
abbrev pub trim_next : Sight → JudgedAnswer → List Sight
trim_next s a = if is_answered a then one s else one (hung s)

-- a function of the interface, by its answer
abbrev pub function_next : Rules → Sight → Function → JudgedAnswer → List Sight
function_next r s (function.Open f) a = open_next r (open_defects f.0) true s a
function_next r s (function.Close f) a = open_next r (close_defects s f.0) false s a
function_next r s (function.Branch v o) a = branch_next r v s o a
function_next r s (function.Recover t count f) a = recover_next r s t count f.0 a

-- the states that may follow, of those that no call has hung in
abbrev pub next_by : Rules → Sight → JudgedCall → JudgedAnswer → List Sight
next_by r s (call.Function f) a = function_next r s f a
next_by r s (call.Get t k) a = get_next r s t k a
next_by r s (call.Put t k v) a = put_next s t k v a
next_by r s (call.Decide x commits) a = decide_next s x commits a
next_by r s (call.Restart cut) a = restart_next r cut s a
next_by r s (call.Disconnect t) a = disconnect_next t s a
next_by r s call.Trim a = trim_next s a

-- the states that may follow: after a call without an answer nothing is judged
abbrev pub next : Rules → Sight → JudgedCall → JudgedAnswer → List Sight
next r s c a = if s.hung then one s else next_by r s c a
