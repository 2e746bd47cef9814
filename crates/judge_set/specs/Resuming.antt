-- How the judge goes on after a fault: from each state as it is, and as it is if the answer is taken at its
-- word.
use Rattle.std.specs.Prelude.{Bool, true, false, not, ◌&&◌, List, [], ◌∷◌, Option, Some, None, if◌then◌else◌}
use Rattle.std.specs.List.{flat_map}
use Rattle.judge_state.specs.declared.parts.JudgedBranch.{JudgedBranch}
use Rattle.judge_state.specs.Moves.{begun, committed, dissociated, gone, inactive, linked, marked, opened, prepared, unlinked}
use Rattle.judge_state.specs.Questions.{branch_at}
use Rattle.judge_state.specs.Sights.{Sight}
use Rattle.judge_rules.specs.declared.calls.JudgedAnswer.{JudgedAnswer}
use Rattle.judge_words.specs.answer
use Rattle.judge_rules.specs.declared.calls.BranchVerb.{BranchVerb}
use Rattle.judge_words.specs.verb
use Rattle.judge_rules.specs.declared.calls.JudgedCall.{JudgedCall}
use Rattle.judge_words.specs.call
use Rattle.judge_rules.specs.declared.calls.HistoryEvent.{HistoryEvent}
use Rattle.judge_rules.specs.declared.calls.Function.{Function}
use Rattle.judge_words.specs.function
use Rattle.judge_rules.specs.declared.calls.On.{On}
use Rattle.judge_rules.specs.declared.replies.Reply.{Reply}
use Rattle.judge_words.specs.reply
use Rattle.judge_rules.specs.Replies.{reply_of}

-- a state in which a branch is known: begun by the thread, if it was not
abbrev pub known_by : Option JudgedBranch → On → Sight → Sight
known_by (Some b) o s = s
known_by None o s = begun o.thread o.xid.number s

-- a state, with the branch of this name known: begun by the thread, if the state does not know it
abbrev pub known : On → Sight → Sight
known o s = known_by (branch_at o.xid.number s) o s

-- after a start that was told XA_OK the thread is active in the branch, and in no other
abbrev pub started : On → Sight → Sight
started o s =
    linked o.thread o.xid.number false (unlinked o.thread o.xid.number
    (inactive o.thread (known o s)))

-- XA_OK
abbrev pub is_ok : Reply → Bool
is_ok reply.Ok = true
is_ok _ = false

-- XAER_NOTA
abbrev pub is_unknown : Reply → Bool
is_unknown reply.NotA = true
is_unknown _ = false

-- a code tells something of a branch
abbrev pub tells : Reply → Bool
tells reply.Ok = true
tells reply.RolledBack = true
tells reply.RdOnly = true
tells reply.NotA = true
tells _ = false

-- a start
abbrev pub is_start : BranchVerb → Bool
is_start verb.Start = true
is_start _ = false

-- a branch is gone, and no thread is associated with it
abbrev pub ended : On → Sight → Sight
ended o s = gone o.xid.number (dissociated o.xid.number s)

-- what a code that says that it is there makes of a branch that is known
abbrev pub told : BranchVerb → Reply → On → Sight → Sight
told verb.Start a o s = s
told verb.End a o s =
    if is_ok a then unlinked o.thread o.xid.number s
    else marked o.xid.number (unlinked o.thread o.xid.number s)
told verb.Prepare a o s = if is_ok a then prepared o.xid.number (dissociated o.xid.number s) else ended o s
told verb.Commit a o s = if is_ok a then committed o.xid.number (dissociated o.xid.number s) else ended o s
told verb.Rollback a o s = ended o s
told verb.Forget a o s = ended o s

-- what a code makes of a branch, if it is known
abbrev pub told_of : BranchVerb → Reply → On → Option JudgedBranch → Sight → Sight
told_of v a o None s = s
told_of v a o (Some b) s = if is_unknown a then ended o s else told v a o s

-- the state by the word of a call on a branch
abbrev pub branch_word : BranchVerb → On → Reply → Sight → Sight
branch_word v o a s =
    if not (tells a) then s
    else if is_start v && is_ok a then started o s
    else told_of v a o (branch_at o.xid.number s) s

-- the state by the word of a call of the interface that a code answers
abbrev pub function_word : Function → Reply → Sight → Sight
function_word (function.Branch v o) a s = branch_word v o a s
function_word (function.Open f) a s = opened true s
function_word (function.Close f) a s = opened false s
function_word (function.Recover t c f) a s = s

-- the state by the word of a call and its answer
abbrev pub at_word : JudgedCall → JudgedAnswer → Sight → Sight
at_word (call.Function f) (answer.Code c) s = function_word f (reply_of c) s
at_word c a s = s

-- the states from which the judge goes on
abbrev pub resumed : HistoryEvent → List Sight → List Sight
resumed e us = flat_map (λ u. at_word e.call e.answer u ∷ u ∷ []) us
