-- What a node makes of a line, and what it answers.
use Rattle.std.specs.Prelude.{◌≡◌, ◌≢◌, ◌≤◌, ◌+◌, ◌^◌, ◌⊎◌, ⊤, ℕ, Bool, true, false, ◌&&◌, is_none, Option, Some, None, option_map, string_bytes, Result, Ok, Err, List, [], ◌++◌, length}
use Rattle.std.specs.Str.{IsUtf8}
use Rattle.protocol.specs.declared.messages.Envelope.{Envelope}
use Rattle.protocol.specs.declared.names.ProcessId.{ProcessId}
use Rattle.protocol.specs.declared.names.Case.{Case}
use Rattle.protocol.specs.declared.names.Txn.{Txn}
use Rattle.protocol.specs.declared.trees.TreeProcess.{TreeProcess}
use Rattle.protocol.specs.declared.events.Input.{Input}
use Rattle.protocol_words.specs.Variants.{ActInput, MessageInput}
use Rattle.protocol.specs.declared.events.Reaction.{Reaction}
use Rattle.protocol.specs.declared.events.StepError.{StepError}
use Rattle.protocol.specs.declared.events.StepError.TheVariants.{Memory, Device, NoSuch}
use Rattle.protocol.specs.declared.records.LogRecord.{LogRecord}
use Rattle.protocol.specs.Names.{same_process}
use Rattle.protocol.specs.Nodes.{Place, reaction_of}
use Rattle.protocol.specs.Plays.{process_of_act}
use Rattle.protocol.specs.Reactions.{sends_only}
use Rattle.protocol.specs.Trees.{parent_of, root_of}
use Rattle.log_records.specs.Sights.{records_of}
use Rattle.process_state.specs.States.{CoreState, form_of}
use Rattle.coord_records.specs.Readings.{place_below}
use Rattle.tree_state.specs.Worlds.{HandlesInput}
use Rattle.resource_manager.specs.Data.{ManagerData}
use Rattle.tree_process.specs.declared.node.Process.{Process}
use Rattle.tree_process.specs.Nodes.{NotHandled, SpellsLog, core_of, data_of}
use Rattle.tree_process.specs.Restarts.{NoTrim, TrimsNode}
use Rattle.node_lines.specs.declared.asked.NodeLine.{NodeLine}
use Rattle.node_lines.specs.declared.asked.NodeLine.TheVariants as asked
use Rattle.node_lines.specs.Asked.{asked_at}
use Rattle.node_lines.specs.Speakers.{may_speak}
use Rattle.node_engine.specs.Again.{owed_again}
use Rattle.node_engine.specs.DataTexts.{TellsData}
use Rattle.node_engine.specs.Branches.{IsBranchAnswer, name_text, own_logs, trust_of}
use Rattle.branch_names.specs.declared.cases.Naming.{Naming}
use Rattle.branch_names.specs.Cases.{IsNaming}
use Rattle.resolve_engine.specs.declared.answer.BranchAnswer.{BranchAnswer}
use Rattle.node_engine.specs.declared.failure.NodeFailure.{NodeFailure}
use Rattle.node_engine.specs.declared.failure.NodeFailure.TheVariants as failure
use Rattle.node_engine.specs.declared.serving.Serving.{Serving}
use Rattle.log_outcomes.specs.Boots.{boot_in}
use Rattle.log_outcomes.specs.Doubts.{decisions_in, doubts_in}
use Rattle.log_outcomes.specs.News.{news_in}
use Rattle.node_answers.specs.Texts.{decisions_text, doubts_text, error_text, help_text, log_text, news_text, ok_text, refused_text, shown_text, status_text, trimmed_text}
use Rattle.node_answers.specs.declared.status.NodeStatus.{NodeStatus}
use Rattle.node_answers.specs.declared.refusing.Manner.{Manner}
use Rattle.node_answers.specs.declared.refusing.Manner.TheVariants.{Numbers}
use Rattle.node_answers.specs.declared.refusing.Nothing.TheVariants.{NoLine, NoText}

-- the tree, and the process; what it keeps and, at a manager, its data; how many messages it sent since it
-- opened; how much it says of a line that it refuses; and the name of the tree in the names of branches in
-- databases, if it has one
pub record NodeState : Type 0 where
  pub tree : List TreeProcess
  pub me : ProcessId
  pub core : CoreState
  pub holdings : ManagerData
  pub sent : ℕ
  pub manner : Manner
  pub name : Option (List ℕ)

-- what a node is
abbrev pub state_of : {L : Type 0} → Serving L → NodeState
state_of s = record {
  tree = s.tree;
  me = s.me;
  core = core_of s.node;
  holdings = data_of s.node;
  sent = s.sent;
  manner = s.manner;
  name = option_map string_bytes s.name;
}

-- the node of a process of this tree, which has sent nothing yet, says numbers alone and knows no name of the
-- tree
abbrev pub opened : {L : Type 0} → List TreeProcess → ProcessId → Process L → NodeState
opened tree me node = record {
  tree = tree;
  me = me;
  core = core_of node;
  holdings = data_of node;
  sent = 0;
  manner = Numbers;
  name = None;
}

-- the node, which says so much of a line that it refuses, in a tree of this name
abbrev pub speaks : NodeState → Manner → Option (List ℕ) → NodeState
speaks s m n = record s { manner = m; name = n }

-- the same process, in the same tree, which answers alike
pub record SameSeat (old new : NodeState) : Type 0 where
  pub tree : new.tree ≡ old.tree
  pub me : new.me ≡ old.me
  pub manner : new.manner ≡ old.manner
  pub name : new.name ≡ old.name

-- the lines of a reaction are told, and its messages are sent; nothing else is otherwise
pub record Shows (old new : NodeState) (reaction : Reaction) (text : List ℕ) : Type 0 where
  pub after : new ≡ record old { sent = old.sent + length reaction.messages }
  pub told : text ≡ shown_text old.me.0 old.sent reaction

-- nothing is otherwise, and this is told
abbrev pub Tells : NodeState → NodeState → List ℕ → List ℕ → Type 0
Tells old new text told = (new ≡ old) × (text ≡ told)

-- a refusal that is told: the device did not fail, and memory was not refused
abbrev pub IsRefusal : StepError → Type 0
IsRefusal Memory = ⊥
IsRefusal Device = ⊥
IsRefusal e = ⊤

-- why a refusal is not told: the device failed under what was refused, or else memory was refused
abbrev pub IsUnrefused : StepError → NodeFailure → Type 0
IsUnrefused e failure.Memory = e ≢ Device
IsUnrefused e failure.Device = e ≡ Device
IsUnrefused e _ = ⊥

-- why the lines of a reaction are not shown: memory was refused, or with its messages 2^64 or more were sent
abbrev pub IsUnshown : ℕ → Reaction → NodeFailure → Type 0
IsUnshown sent r failure.Memory = ⊤
IsUnshown sent r failure.Exhausted = 2 ^ 64 ≤ sent + length r.messages
IsUnshown sent r _ = ⊥

-- Inputs.

-- the process handled an input, or refused it
abbrev pub Took : NodeState → NodeState → Input → Result Reaction StepError → Type 0
Took old new input (Ok reaction) = HandlesInput old.core new.core old.holdings new.holdings input reaction
Took old new input (Err e) = NotHandled old.core new.core old.holdings new.holdings input e

-- what is told of an input, and how many messages are sent then
abbrev pub ToldOf : NodeState → NodeState → List ℕ → Result Reaction StepError → Type 0
ToldOf old new text (Ok reaction) =
    (text ≡ shown_text old.me.0 old.sent reaction) × (new.sent ≡ old.sent + length reaction.messages)
ToldOf old new text (Err e) =
    (text ≡ refused_text old.manner e) × (new.sent ≡ old.sent) × IsRefusal e

-- why what became of an input is not told, after N messages that were sent
abbrev pub Untold : ℕ → Result Reaction StepError → NodeFailure → Type 0
Untold sent (Ok reaction) why = IsUnshown sent reaction why
Untold sent (Err e) why = IsUnrefused e why

-- an input was handled or refused, and that is not told
pub record TakesInput (old new : NodeState) (input : Input) (why : NodeFailure) : Type 0 where
  pub seat : SameSeat old new
  pub end : Result Reaction StepError
  pub took : Took old new input end
  pub untold : Untold old.sent end why

-- an input was handled or refused, and that is told
pub record AnswersInput (old new : NodeState) (input : Input) (text : List ℕ) : Type 0 where
  pub seat : SameSeat old new
  pub end : Result Reaction StepError
  pub took : Took old new input end
  pub told : ToldOf old new text end

-- an input of this process, or of another, which is refused: there is no such process here
abbrev pub AnswersIf : Bool → NodeState → NodeState → Input → List ℕ → Type 0
AnswersIf true old new input text = AnswersInput old new input text
AnswersIf false old new input text = Tells old new text (refused_text old.manner NoSuch)

-- an input that is for this process p or is not
abbrev pub AnswersFor : ProcessId → NodeState → NodeState → Input → List ℕ → Type 0
AnswersFor p old new input text = AnswersIf (same_process p old.me) old new input text

-- a message is for this process, and its sender may send it
abbrev pub hears : NodeState → Envelope → Bool
hears s e = same_process e.to s.me && may_speak s.tree e

-- nothing is otherwise, and nothing is told, as memory was refused
abbrev pub TellsNothing : NodeState → NodeState → NodeFailure → Type 0
TellsNothing old new why = (new ≡ old) × (why ≡ failure.Memory)

-- an input of this process was taken, and that is not told; or memory was refused before it was looked at
pub data TakesMine (old new : NodeState) (input : Input) (why : NodeFailure) : Type 0 where
  takes_it : TakesInput old new input why → TakesMine old new input why
  leaves_it : TellsNothing old new why → TakesMine old new input why

-- an input of this process, or of another, where that is not told
abbrev pub TakesIf : Bool → NodeState → NodeState → Input → NodeFailure → Type 0
TakesIf true old new input why = TakesMine old new input why
TakesIf false old new input why = TellsNothing old new why

-- an input that is for this process p or is not, where that is not told
abbrev pub TakesFor : ProcessId → NodeState → NodeState → Input → NodeFailure → Type 0
TakesFor p old new input why = TakesIf (same_process p old.me) old new input why

-- Trims.

-- the log was trimmed, or the trim was refused
abbrev pub NodeTrimmed : NodeState → NodeState → Result ℕ StepError → Type 0
NodeTrimmed old new (Ok remain) = TrimsNode old.core new.core old.holdings new.holdings remain
NodeTrimmed old new (Err e) = NoTrim old.core new.core old.holdings new.holdings e

-- what is told of a trim
abbrev pub ToldOfTrim : NodeState → List ℕ → Result ℕ StepError → Type 0
ToldOfTrim old text (Ok remain) = text ≡ trimmed_text old.me.0 remain
ToldOfTrim old text (Err e) = (text ≡ refused_text old.manner e) × IsRefusal e

-- why what became of a trim is not told
abbrev pub UntoldTrim : Result ℕ StepError → NodeFailure → Type 0
UntoldTrim (Ok remain) why = why ≡ failure.Memory
UntoldTrim (Err e) why = IsUnrefused e why

-- the log was trimmed or not, and that is not told
pub record TakesTrim (old new : NodeState) (why : NodeFailure) : Type 0 where
  pub seat : SameSeat old new
  pub end : Result ℕ StepError
  pub took : NodeTrimmed old new end
  pub untold : UntoldTrim end why

-- the log was trimmed or not, and that is told
pub record AnswersTrim (old new : NodeState) (text : List ℕ) : Type 0 where
  pub seat : SameSeat old new
  pub sent : new.sent ≡ old.sent
  pub end : Result ℕ StepError
  pub took : NodeTrimmed old new end
  pub told : ToldOfTrim old text end

-- What the log tells.

-- the records of the node's log
abbrev pub records_at : NodeState → List LogRecord
records_at s = records_of s.core.log.kept

-- the process has no parent: it is the root of each transaction
abbrev pub is_root : NodeState → Bool
is_root s = is_none (parent_of s.tree s.me)

-- how a transaction ended, as far as its root's log tells; at another process that is refused
abbrev pub TellsOutcome : Bool → Txn → NodeState → NodeState → List ℕ → Type 0
TellsOutcome true x old new text = Tells old new text (news_text x (news_in (records_at old) x) ++ ok_text)
TellsOutcome false x old new text = Tells old new text (refused_text old.manner NoSuch)

-- the cases in doubt, and those that an operator decided and that wait to be told
abbrev pub doubt_text : NodeState → List ℕ
doubt_text s = doubts_text (doubts_in (records_at s)) ++ decisions_text
    (decisions_in (records_at s)) ++ ok_text

-- how the log stands that has N bytes
abbrev pub status_by : NodeState → ℕ → NodeStatus
status_by s bytes = record {
  boot = boot_in (records_at s);
  records = length (records_at s);
  unforced = length s.core.log.kept.unforced;
  bytes = bytes;
  doubts = length (doubts_in (records_at s));
  decided = length (decisions_in (records_at s));
}

-- this tells how the log of the process stands
pub record TellsStatus (s : NodeState) (text : List ℕ) : Type 0 where
  pub log : List ℕ
  pub spells : SpellsLog s.core log
  pub told : text ≡ status_text (status_by s (length log))

-- The log and the data.

-- this tells what the log of the process holds
pub record TellsLog (s : NodeState) (text : List ℕ) : Type 0 where
  pub log : List ℕ
  pub spells : SpellsLog s.core log
  pub told : text ≡ log_text (form_of s.core.place) log

-- What is sent once more.

-- where the process sits
abbrev pub own_place : NodeState → Place
own_place s = place_below s.me (parent_of s.tree s.me) s.tree

-- what is sent once more of a case, by the log, to those who owe an acknowledgement; none of one that waits
-- for none
abbrev pub owed_at : NodeState → Case → Option (List Envelope)
owed_at s c = owed_again (own_place s) (records_at s) (s.core.view_of c).owed c

-- what is shown of them
abbrev pub resends : List Envelope → Reaction
resends es = reaction_of (sends_only es)

-- These messages are told, under the next numbers, and nothing else is otherwise; without them there is a
-- refusal.
abbrev pub AnswersAgain : Option (List Envelope) → NodeState → NodeState → List ℕ → Type 0
AnswersAgain None old new text = Tells old new text (refused_text old.manner NoSuch)
AnswersAgain (Some es) old new text = Shows old new (resends es) text

-- nothing is otherwise, and that is not told: memory was refused, or with them 2^64 or more were sent
abbrev pub TakesAgain : Option (List Envelope) → NodeState → NodeState → NodeFailure → Type 0
TakesAgain None old new why = TellsNothing old new why
TakesAgain (Some es) old new why = (new ≡ old) × IsUnshown old.sent (resends es) why

-- Branches.

-- this is answered of what a name is of, by the log of the process alone, if its bytes read
pub record FindsInLog (s : NodeState) (of : Naming) (answer : Option BranchAnswer) : Type 0 where
  pub log : List ℕ
  pub spells : SpellsLog s.core log
  pub is_answer : IsBranchAnswer s.tree (own_logs s.me log) (trust_of (is_root s) s.core of) of answer

-- this tells what is to be done with a branch of this name
pub record Resolves (s : NodeState) (name text : List ℕ) : Type 0 where
  pub of : Naming
  pub named : IsNaming s.tree s.name name of
  pub answer : Option BranchAnswer
  pub finds : FindsInLog s of answer
  pub told : text ≡ name_text s.manner name answer

-- this tells what is to be done with a branch whose name is these bytes, or an error if they are no text
abbrev pub TellsName : NodeState → List ℕ → List ℕ → Type 0
TellsName s name text =
    (IsUtf8 name × Resolves s name text) ⊎ ((IsUtf8 name → ⊥) × (text ≡ error_text s.manner NoText))

-- Lines.

-- what was asked is answered
abbrev pub AnswersAsked : NodeLine → NodeState → NodeState → List ℕ → Type 0
AnswersAsked asked.Nothing old new text = Tells old new text []
AnswersAsked (asked.Act a) old new text = AnswersFor (process_of_act (root_of old.tree) a) old new
    (ActInput a) text
AnswersAsked (asked.Message n e) old new text = AnswersIf (hears old e) old new
    (MessageInput n e.message) text
AnswersAsked asked.Trim old new text = AnswersTrim old new text
AnswersAsked asked.Doubt old new text = Tells old new text (doubt_text old)
AnswersAsked (asked.Outcome x) old new text = TellsOutcome (is_root old) x old new text
AnswersAsked (asked.Again c) old new text = AnswersAgain (owed_at old c) old new text
AnswersAsked asked.Status old new text = (new ≡ old) × TellsStatus old text
AnswersAsked asked.Log old new text = (new ≡ old) × TellsLog old text
AnswersAsked asked.Data old new text = (new ≡ old) × TellsData old.manner (records_at old) text
AnswersAsked asked.Help old new text = Tells old new text help_text
AnswersAsked asked.End old new text = Tells old new text ok_text
AnswersAsked (asked.Resolve name) old new text = (new ≡ old) × TellsName old name text
AnswersAsked asked.Unknown old new text = Tells old new text (error_text old.manner NoLine)
AnswersAsked asked.NoText old new text = Tells old new text (error_text old.manner NoText)

-- what was asked is made or not, and for this reason not answered
abbrev pub NodeTakes : NodeLine → NodeState → NodeState → NodeFailure → Type 0
NodeTakes (asked.Act a) old new why = TakesFor (process_of_act (root_of old.tree) a) old new (ActInput a) why
NodeTakes (asked.Message n e) old new why = TakesIf (hears old e) old new (MessageInput n e.message) why
NodeTakes asked.Trim old new why = TakesTrim old new why
NodeTakes (asked.Again c) old new why = TakesAgain (owed_at old c) old new why
NodeTakes _ old new why = TellsNothing old new why

-- what a line asks, if it is a text
abbrev pub AsksLine : ProcessId → List ℕ → NodeLine → Type 0
AsksLine root line a = (IsUtf8 line × (a ≡ asked_at root line)) ⊎ ((IsUtf8 line → ⊥) × (a ≡ asked.NoText))

-- a line is answered
pub record AnswersLine (line : List ℕ) (old new : NodeState) (text : List ℕ) : Type 0 where
  pub asked : NodeLine
  pub asks : AsksLine (root_of old.tree) line asked
  pub answers : AnswersAsked asked old new text

-- a line is made or not, and for this reason not answered
pub record TakesLine (line : List ℕ) (old new : NodeState) (why : NodeFailure) : Type 0 where
  pub asked : NodeLine
  pub asks : AsksLine (root_of old.tree) line asked
  pub takes : NodeTakes asked old new why
