-- The text of an answer.
use Rattle.std.specs.Prelude.{ℕ, Bool, true, false, ◌==◌, if◌then◌else◌, nat_lt, ◌+◌, ◌-◌, ◌/◌, ◌%◌, Option, Some, None, List, [], ◌∷◌, ◌++◌, codes}
use Rattle.std.specs.List.{flat_map}
use Rattle.std.specs.Fmt.{decimal}
use Rattle.protocol.specs.declared.names.Case.{Case}
use Rattle.protocol.specs.declared.names.Presumption.{Presumption}
use Rattle.protocol.specs.declared.names.ProcessId.{ProcessId}
use Rattle.protocol.specs.Names.{presumed}
use Rattle.protocol.specs.Texts.{case_text, outcome_word}
use Rattle.audit_engine.specs.declared.steps.Stands.{Stands}
use Rattle.audit_engine.specs.declared.steps.Stands.TheVariants as stands
use Rattle.resolve_engine.specs.declared.answer.BranchAnswer.{BranchAnswer}
use Rattle.resolve_engine.specs.declared.answer.AnswerReason.{AnswerReason}
use Rattle.resolve_engine.specs.declared.answer.AnswerReason.TheVariants as reason
use Rattle.resolve_engine.specs.declared.answer.AnswerWord.{AnswerWord}
use Rattle.resolve_engine.specs.declared.answer.AnswerWord.TheVariants as word

-- Lines.

-- the word of an answer
abbrev pub word_text : AnswerWord → List ℕ
word_text word.Commit = codes "commit"
word_text word.Rollback = codes "rollback"
word_text word.HeuristicCommit = codes "heuristic-commit"
word_text word.HeuristicRollback = codes "heuristic-rollback"
word_text word.Wait = codes "wait"
word_text (word.Unknown p) = codes "unknown"
word_text word.Foreign = codes "foreign"

-- the process of which something is wanted, if it is
abbrev pub wanted_text : AnswerWord → List ℕ
wanted_text (word.Unknown p) = codes " " ++ decimal p.0
wanted_text _ = []

-- a name and what is answered of it, without the line's end
abbrev pub answer_text : List ℕ → AnswerWord → List ℕ
answer_text name w = name ++ codes " " ++ word_text w ++ wanted_text w

-- the line of an answer
abbrev pub line_text : List ℕ → BranchAnswer → List ℕ
line_text name a = answer_text name a.word ++ codes "\n"

-- Why.

-- what stands of a case, as the rest of a sentence says it
abbrev pub stands_text : Stands → List ℕ
stands_text stands.Commit = codes " committed"
stands_text stands.Abort = codes " aborted"
stands_text stands.Prepare = codes " is in doubt itself"
stands_text stands.Ended = codes " ended without a decision"
stands_text stands.Collecting = codes " is not decided: a restart of its process aborts it"

-- what the log of a process has of the case that names the ticket
abbrev pub kept_text : ProcessId → Case → Stands → List ℕ
kept_text p c s = codes "the log of " ++ decimal p.0 ++ codes " says that " ++ case_text c ++ stands_text s

-- that nothing of it is kept, and what is presumed
abbrev pub presumed_text : ProcessId → Presumption → List ℕ
presumed_text p x =
    codes "the log of " ++ decimal p.0 ++ codes " has nothing of it, and so it is presumed "
    ++ outcome_word (presumed x)

-- the reason of an answer, as a sentence without its end
abbrev pub reason_text : AnswerReason → List ℕ
reason_text reason.Own = codes "the log of its own process says so"
reason_text reason.Operator = codes "an operator decided it so, in the log of its own process"
reason_text (reason.Kept p c s) = kept_text p c s
reason_text (reason.Presumed p x) = presumed_text p x
reason_text (reason.Root p) = codes "it is the case of the root " ++ decimal p.0
    ++ codes ", which is not decided: a restart of the root aborts it"
reason_text (reason.Missing p) = codes "the log of " ++ decimal p.0 ++ codes " is not here"
reason_text (reason.NoPromise p) = codes "the log of " ++ decimal p.0 ++ codes " has no promise of it"
reason_text reason.OtherTree = codes "the name is of a tree of another name (--name)"
reason_text reason.NoName = codes "no case of this tree has such a name"

-- what an answer that waits waits for
abbrev pub more_text : AnswerWord → List ℕ
more_text word.Wait =
    codes "; that counts only if these are the logs as they are, of processes that do not run (--complete)"
more_text _ = []

-- why an answer is so, as a sentence without its end
abbrev pub why_text : BranchAnswer → List ℕ
why_text a = reason_text a.reason ++ more_text a.word

-- the line of an answer, and the line that says why
abbrev pub explained_text : List ℕ → BranchAnswer → List ℕ
explained_text name a = line_text name a ++ codes "  " ++ why_text a ++ codes "\n"
