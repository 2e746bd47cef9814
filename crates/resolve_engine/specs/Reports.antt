-- What is written of names, by the logs of a tree.
use Rattle.std.specs.Prelude.{◌≡◌, ◌⊎◌, ℕ, Bool, true, false, not, ◌==◌, length, Option, None, List, ◌++◌, map, filter}
use Rattle.std.specs.List.{All, flat_map, list_any}
use Rattle.std.specs.Str.{IsUtf8}
use Rattle.std.specs.Str.Lines.{lines}
use Rattle.protocol.specs.declared.names.Case.{Case}
use Rattle.protocol.specs.declared.trees.TreeProcess.{TreeProcess}
use Rattle.log_script.specs.declared.line.ProcessLog.{ProcessLog}
use Rattle.tree_script.specs.declared.script.ScriptFault.{ScriptFault}
use Rattle.tree_script.specs.declared.script.ScriptFault.TheVariants.{Utf8}
use Rattle.log_script.specs.Faults.{fault_text, first_damage}
use Rattle.log_script.specs.Refusals.{TellsDamage}
use Rattle.protocol.specs.Audits.{KeptLogs}
use Rattle.audit_tree.specs.Reports.{kept_lists}
use Rattle.xa_xid.specs.Xids.{XidParts}
use Rattle.branch_names.specs.declared.cases.Naming.{Naming}
use Rattle.branch_names.specs.declared.cases.Naming.TheVariants as naming
use Rattle.branch_names.specs.Cases.{IsNaming}
use Rattle.branch_names.specs.Forms.{IsXidOf}
use Rattle.resolve_engine.specs.declared.answer.BranchAnswer.{BranchAnswer}
use Rattle.resolve_engine.specs.declared.answer.AnswerReason.TheVariants as reason
use Rattle.resolve_engine.specs.declared.answer.AnswerWord.{AnswerWord}
use Rattle.resolve_engine.specs.declared.answer.AnswerWord.TheVariants as word
use Rattle.resolve_engine.specs.declared.asked.AnswerForm.{AnswerForm}
use Rattle.resolve_engine.specs.declared.asked.AnswerForm.TheVariants.{Lines, Explained, Sql}
use Rattle.resolve_engine.specs.declared.asked.Trust.{Trust}
use Rattle.resolve_engine.specs.declared.engine.ResolveStatus.{ResolveStatus}
use Rattle.resolve_engine.specs.declared.engine.ResolveStatus.TheVariants as ending
use Rattle.resolve_engine.specs.Answers.{answer_of}
use Rattle.resolve_engine.specs.Inputs.{IsSomeLogsFault, IsSomeLogsText}
use Rattle.resolve_engine.specs.Sql.{sql_text}
use Rattle.resolve_engine.specs.Texts.{explained_text, line_text}

-- One name.

-- a name that is none of this tree
abbrev pub foreign_answer : BranchAnswer
foreign_answer = record { word = word.Foreign; reason = reason.NoName }

-- a name of a tree of another name
abbrev pub other_tree_answer : BranchAnswer
other_tree_answer = record { word = word.Foreign; reason = reason.OtherTree }

-- what is answered of a name, by what it is of
abbrev pub naming_answer : (Case → BranchAnswer) → Naming → BranchAnswer
naming_answer f (naming.Case c) = f c
naming_answer f naming.OtherTree = other_tree_answer
naming_answer f naming.Foreign = foreign_answer

-- this is written of an answer
abbrev pub Tells : AnswerForm → List ℕ → BranchAnswer → List ℕ → Type 0
Tells Lines name a text = text ≡ line_text name a
Tells Explained name a text = text ≡ explained_text name a
Tells (Sql d) name a text = (x : Option XidParts) × IsXidOf name x × (text ≡ sql_text d name x a)

-- a name, its answer, and what is written of it
pub record Given : Type 0 where
  pub name : List ℕ
  pub answer : BranchAnswer
  pub text : List ℕ

-- this is answered and written of a name, by these logs, which have these kept lists
pub record IsGiven (f : AnswerForm) (trust : Trust) (name : Option (List ℕ)) (tree : List TreeProcess)
    (logs : List ProcessLog)
    (kept : KeptLogs) (g : Given) : Type 0 where
  pub of : Naming
  pub named : IsNaming tree name g.name of
  pub answered : g.answer ≡ naming_answer (answer_of trust tree logs kept) of
  pub told : Tells f g.name g.answer g.text

-- an answer has to wait, or a log is wanted for it
abbrev pub waits : AnswerWord → Bool
waits word.Wait = true
waits (word.Unknown p) = true
waits _ = false

-- All names.

-- a line is not empty
abbrev pub is_name : List ℕ → Bool
is_name line = not (length line == 0)

-- the names of an input
abbrev pub names_in : List ℕ → List (List ℕ)
names_in input = filter is_name (lines input)

-- this is answered of one more name, and whether it has to wait
pub record GivesOne (f : AnswerForm) (trust : Trust) (name : Option (List ℕ)) (tree : List TreeProcess)
    (logs : List ProcessLog)
    (kept : KeptLogs) (line : List ℕ) (waits_now : Bool) (before after : List ℕ) : Type 0 where
  pub given : Given
  pub is_given : IsGiven f trust name tree logs kept given
  pub name_is : given.name ≡ line
  pub text_is : after ≡ before ++ given.text
  pub waiting : waits given.answer.word ≡ waits_now

-- these are the answers to these names, the text has them, and whether one has to wait
pub record Gives (f : AnswerForm) (trust : Trust) (name : Option (List ℕ)) (tree : List TreeProcess)
    (logs : List ProcessLog)
    (kept : KeptLogs) (names : List (List ℕ)) (waits_any : Bool) (text : List ℕ) : Type 0 where
  pub given : List Given
  pub each : All (IsGiven f trust name tree logs kept) given
  pub names_are : map (λ g. g.name) given ≡ names
  pub text_is : text ≡ flat_map (λ g. g.text) given
  pub one_waits : list_any (λ g. waits g.answer.word) given ≡ waits_any

-- these are the answers to the names of an input, by how the run ends
abbrev pub GivesAll : AnswerForm → Trust → Option (List ℕ) → List TreeProcess → List ProcessLog → KeptLogs
    → List ℕ → ResolveStatus
    → List ℕ → Type 0
GivesAll f t n tree logs kept input ending.Answered text =
    Gives f t n tree logs kept (names_in input) false text
GivesAll f t n tree logs kept input ending.Waits text = Gives f t n tree logs kept (names_in input) true text
GivesAll f t n tree logs kept input ending.Refused text = ⊥

-- no log is damaged, the names are text, and this has their answers
pub record Resolves (e : ResolveStatus) (f : AnswerForm) (trust : Trust) (name : Option (List ℕ))
    (tree : List TreeProcess)
    (logs : List ProcessLog) (input text : List ℕ) : Type 0 where
  pub sound : first_damage tree logs ≡ None
  pub is_text : IsUtf8 input
  pub answers : GivesAll f trust name tree logs (kept_lists tree logs) input e text

-- no log is damaged, and the names are no text
pub record RefusesNames (tree : List TreeProcess) (logs : List ProcessLog)
    (input text : List ℕ) : Type 0 where
  pub sound : first_damage tree logs ≡ None
  pub is_no_text : IsUtf8 input → ⊥
  pub line : text ≡ fault_text Utf8

-- what is written of logs that were read, and of names, by how the run ends
abbrev pub IsResolved : ResolveStatus → AnswerForm → Trust → Option (List ℕ) → List TreeProcess
    → List ProcessLog → List ℕ
    → List ℕ → Type 0
IsResolved ending.Answered f t n tree logs input text = Resolves ending.Answered f t n tree logs input text
IsResolved ending.Waits f t n tree logs input text = Resolves ending.Waits f t n tree logs input text
IsResolved ending.Refused f t n tree logs input text = TellsDamage tree logs text
    ⊎ RefusesNames tree logs input text

-- how a run ends, by whether a name has to wait
abbrev pub ending_by : Bool → ResolveStatus
ending_by true = ending.Waits
ending_by false = ending.Answered

-- the exit status
abbrev pub ending_number : ResolveStatus → ℕ
ending_number ending.Answered = 0
ending_number ending.Refused = 1
ending_number ending.Waits = 3

-- the text is that of the names, and of the tree and the logs that the text of logs says
pub record ResolvesBy (e : ResolveStatus) (f : AnswerForm) (t : Trust) (n : Option (List ℕ))
    (text_of_logs input text : List ℕ)
    : Type 0 where
  pub tree : List TreeProcess
  pub logs : List ProcessLog
  pub says : IsSomeLogsText text_of_logs tree logs
  pub resolved : IsResolved e f t n tree logs input text

-- the text is the line of the fault that the text of logs has
pub record RefusesLogs (text_of_logs text : List ℕ) : Type 0 where
  pub fault : ScriptFault
  pub there : IsSomeLogsFault text_of_logs fault
  pub line : text ≡ fault_text fault

-- what is written, by how the run ends
abbrev pub IsResolveReport : ResolveStatus → AnswerForm → Trust → Option (List ℕ) → List ℕ → List ℕ → List ℕ
    → Type 0
IsResolveReport ending.Answered f t n logs input text = ResolvesBy ending.Answered f t n logs input text
IsResolveReport ending.Waits f t n logs input text = ResolvesBy ending.Waits f t n logs input text
IsResolveReport ending.Refused f t n logs input text =
    ResolvesBy ending.Refused f t n logs input text ⊎ RefusesLogs logs text
