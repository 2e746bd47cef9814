-- What is to be done with a branch, by the logs of its tree.
use Rattle.std.specs.Prelude.{◌≡◌, ◌&&◌, ◌||◌, Bool, true, false, not, is_some, Option, Some, None, List, fold, if◌then◌else◌}
use Rattle.protocol.specs.declared.names.Case.{Case}
use Rattle.protocol.specs.declared.names.Outcome.{Outcome}
use Rattle.protocol.specs.declared.names.Outcome.TheVariants.{Committed, Aborted}
use Rattle.protocol.specs.declared.names.ProcessId.{ProcessId}
use Rattle.protocol.specs.declared.trees.TreeProcess.{TreeProcess}
use Rattle.protocol.specs.Names.{presumed, process_of}
use Rattle.log_script.specs.declared.line.ProcessLog.{ProcessLog}
use Rattle.log_script.specs.Logs.{has_log}
use Rattle.protocol.specs.Audits.{KeptLogs}
use Rattle.audit_cases.specs.declared.kinds.Kinds.{Kinds}
use Rattle.audit_cases.specs.Notes.{note_in, notes_of}
use Rattle.audit_engine.specs.declared.steps.StepFound.{StepFound}
use Rattle.audit_engine.specs.declared.steps.StepFound.TheVariants.{Kept as Finds, Nothing}
use Rattle.audit_engine.specs.declared.steps.Stands.{Stands}
use Rattle.audit_engine.specs.declared.steps.Stands.TheVariants as stands
use Rattle.audit_engine.specs.declared.steps.AuditStep.{AuditStep}
use Rattle.audit_engine.specs.Chains.{chain_of}
use Rattle.resolve_engine.specs.declared.answer.BranchAnswer.{BranchAnswer}
use Rattle.resolve_engine.specs.declared.answer.AnswerReason.{AnswerReason}
use Rattle.resolve_engine.specs.declared.answer.AnswerReason.TheVariants as reason
use Rattle.resolve_engine.specs.declared.answer.AnswerWord.{AnswerWord}
use Rattle.resolve_engine.specs.declared.answer.AnswerWord.TheVariants as word
use Rattle.resolve_engine.specs.declared.asked.Trust.{Trust}
use Rattle.resolve_engine.specs.declared.asked.Trust.TheVariants.{Complete, Parts}

-- Words.

-- what is to be done with a branch whose transaction ended so
abbrev pub word_by : Outcome → AnswerWord
word_by Committed = word.Commit
word_by Aborted = word.Rollback

-- this word, if the logs are complete; else it has to wait
abbrev pub if_complete : Trust → AnswerWord → AnswerWord
if_complete Complete w = w
if_complete Parts w = word.Wait

-- What the log of a case's own process says.

-- by whether a commit is recorded or told, and whether an abort is: the decision
abbrev pub decided_by : Bool → Bool → Option Outcome
decided_by true _ = Some Committed
decided_by false true = Some Aborted
decided_by false false = None

-- the decision that records of these kinds say, if they say one
abbrev pub decided_in : Kinds → Option Outcome
decided_in k = decided_by ((k.committed || k.commit) || k.told_commit)
    ((k.rolled_back || k.told_abort) || k.abort)

-- the answer of a decision, if there is one
abbrev pub told_by : Option Outcome → Option BranchAnswer
told_by None = None
told_by (Some o) = Some (record { word = word_by o; reason = reason.Own })

-- by whether an operator committed it, or rolled it back: that; else its own decision
abbrev pub own_by : Bool → Bool → Option Outcome → Option BranchAnswer
own_by true _ o = Some (record { word = word.HeuristicCommit; reason = reason.Operator })
own_by false true o = Some (record { word = word.HeuristicRollback; reason = reason.Operator })
own_by false false o = told_by o

-- what records of these kinds say, if they say what to do
abbrev pub own_answer : Kinds → Option BranchAnswer
own_answer k = own_by k.heur_commit k.heur_rollback (decided_in k)

-- What is found above.

-- what a coordinator's case says of the tickets that it names: one that is not decided is aborted by the next
-- start of its process
abbrev pub kept_word : Trust → Stands → AnswerWord
kept_word t stands.Commit = word.Commit
kept_word t stands.Abort = word.Rollback
kept_word t stands.Prepare = if_complete t word.Rollback
kept_word t stands.Ended = if_complete t word.Rollback
kept_word t stands.Collecting = if_complete t word.Rollback

-- what follows if no case of this process names the ticket, by whether its log is here: the presumption
abbrev pub not_kept : Trust → Bool → ProcessId → Case → BranchAnswer
not_kept t false p c = record { word = word.Unknown p; reason = reason.Missing p }
not_kept t true p c = record {
  word = if_complete t (word_by (presumed c.txn.presumption));
  reason = reason.Presumed p c.txn.presumption;
}

-- what the log of a process says by the case that names the ticket
abbrev pub kept_answer : Trust → ProcessId → Case → Stands → BranchAnswer
kept_answer t p d s = record { word = kept_word t s; reason = reason.Kept p d s }

-- what was found at a process
abbrev pub found_answer : Trust → List ProcessLog → Case → ProcessId → StepFound → BranchAnswer
found_answer t logs c p (Finds d s) = kept_answer t p d s
found_answer t logs c p Nothing = not_kept t (has_log logs p) p c

-- what a step upward says
abbrev pub step_answer : Trust → List ProcessLog → Case → AuditStep → BranchAnswer
step_answer t logs c s = found_answer t logs c s.process s.found

-- what is answered of the root's own case, which is aborted if it is not decided
abbrev pub root_answer : Trust → Case → BranchAnswer
root_answer t c = record { word = if_complete t word.Rollback; reason = reason.Root (process_of c) }

-- what the last step upward says; without one the case is the root's
abbrev pub above_answer : Trust → List ProcessLog → Case → List AuditStep → BranchAnswer
above_answer t logs c ss = fold (λ a s. step_answer t logs c s) (root_answer t c) ss

-- The whole.

-- records of these kinds have a promise of the case, or its end
abbrev pub is_promised : Kinds → Bool
is_promised k = (k.prepared || k.prepare) || k.ended

-- a decision was found, or a log is not here
abbrev pub is_known : AnswerReason → Bool
is_known (reason.Kept p d stands.Commit) = true
is_known (reason.Kept p d stands.Abort) = true
is_known (reason.Missing p) = true
is_known _ = false

-- nothing is known above, and the log of the case's own process, which is here, has no promise of it
abbrev pub is_unpromised : List ProcessLog → Case → Kinds → BranchAnswer → Bool
is_unpromised logs c k a =
    not (is_promised k) && (not (is_known a.reason) && (is_some c.ticket && has_log logs (process_of c)))

-- what is answered, unless the case's own log says what to do
abbrev pub answer_above : List ProcessLog → Case → Kinds → BranchAnswer → BranchAnswer
answer_above logs c k a =
    if is_unpromised logs c k a
    then record { word = word.Unknown (process_of c); reason = reason.NoPromise (process_of c) } else a

-- what is answered, by what the case's own log says
abbrev pub answer_by : Option BranchAnswer → BranchAnswer → BranchAnswer
answer_by (Some a) above = a
answer_by None above = above

-- what these kept lists say of a case's own process
abbrev pub own_kinds : KeptLogs → Case → Kinds
own_kinds kept c = (note_in (notes_of (kept (process_of c))) c).kinds

-- what is answered of a case by these logs, which have these kept lists
unfoldable pub answer_of : Trust → List TreeProcess → List ProcessLog → KeptLogs → Case → BranchAnswer
answer_of t tree logs kept c =
    answer_by (own_answer (own_kinds kept c))
    (answer_above logs c (own_kinds kept c) (above_answer t logs c (chain_of tree kept c)))
