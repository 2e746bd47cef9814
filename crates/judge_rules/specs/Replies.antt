-- The codes of answers, and what refuses a call.
use Rattle.std.specs.Prelude.{Bool, true, false, ◌||◌}
use Rattle.xa_codes.specs.declared.code.Code.{Code}
use Rattle.xa_words.specs.code
use Rattle.judge_rules.specs.declared.replies.Reply.{Reply}
use Rattle.judge_rules.specs.declared.replies.Reply.TheVariants as reply
use Rattle.judge_rules.specs.declared.defects.Refusals.{Refusals}
use Rattle.judge_state.specs.declared.parts.JudgedDecision.{JudgedDecision}
use Rattle.judge_state.specs.declared.parts.JudgedDecision.TheVariants as decision

-- what a code is to the rules: XA_RB* are one
abbrev pub reply_of : Code → Reply
reply_of code.RbRollback = reply.RolledBack
reply_of code.RbCommFail = reply.RolledBack
reply_of code.RbDeadlock = reply.RolledBack
reply_of code.RbIntegrity = reply.RolledBack
reply_of code.RbOther = reply.RolledBack
reply_of code.RbProto = reply.RolledBack
reply_of code.RbTimeout = reply.RolledBack
reply_of code.RbTransient = reply.RolledBack
reply_of code.NoMigrate = reply.NoMigrate
reply_of code.HeurHaz = reply.HeurHaz
reply_of code.HeurCom = reply.HeurCom
reply_of code.HeurRb = reply.HeurRb
reply_of code.HeurMix = reply.HeurMix
reply_of code.Retry = reply.Retry
reply_of code.RdOnly = reply.RdOnly
reply_of code.Ok = reply.Ok
reply_of code.Async = reply.Async
reply_of code.RmErr = reply.RmErr
reply_of code.NotA = reply.NotA
reply_of code.Inval = reply.Inval
reply_of code.Proto = reply.Proto
reply_of code.RmFail = reply.RmFail
reply_of code.DupId = reply.DupId
reply_of code.Outside = reply.Outside

-- a code is among these refusals
abbrev pub is_among : Refusals → Reply → Bool
is_among r reply.Inval = r.inval
is_among r reply.Async = r.asynchronous
is_among r reply.Proto = r.proto
is_among r reply.DupId = r.dup_id
is_among r reply.NotA = r.not_a
is_among r reply.Outside = r.outside
is_among r reply.RmErr = r.rm_err
is_among r reply.RolledBack = r.rolled_back
is_among r reply.Ok = false
is_among r reply.NoMigrate = false
is_among r reply.HeurHaz = false
is_among r reply.HeurCom = false
is_among r reply.HeurRb = false
is_among r reply.HeurMix = false
is_among r reply.Retry = false
is_among r reply.RdOnly = false
is_among r reply.RmFail = false

-- there is a defect among these
abbrev pub is_defective : Refusals → Bool
is_defective r = r.inval || r.asynchronous || r.proto || r.dup_id || r.not_a

-- the decision that an answer tells
abbrev pub is_heuristic : Reply → Bool
is_heuristic reply.HeurHaz = true
is_heuristic reply.HeurCom = true
is_heuristic reply.HeurRb = true
is_heuristic reply.HeurMix = true
is_heuristic _ = false

-- what a heuristic answer tells of the decision: XA_HEURHAZ leaves it unknown
abbrev pub decision_in : Reply → JudgedDecision
decision_in reply.HeurCom = decision.Commit
decision_in reply.HeurRb = decision.Rollback
decision_in reply.HeurMix = decision.Mixed
decision_in _ = decision.Unknown

-- a decision that is known is not contradicted by what is told: what is unknown takes any
abbrev pub agrees : JudgedDecision → JudgedDecision → Bool
agrees decision.Unknown told = true
agrees decision.Commit decision.Commit = true
agrees decision.Rollback decision.Rollback = true
agrees decision.Mixed decision.Mixed = true
agrees _ _ = false
