-- A tree each process of which is a node, a program of its own over a log in a file.
use Rattle.std.specs.Prelude.{◌≡◌, ◌-◌, ◌⊎◌, ⊤, ℕ, Bool, true, false, Some, Result, Ok, Err, List, [], ◌++◌, find, length, slice_get}
use Rattle.std.specs.List.{AllByRecursion}
use Rattle.protocol.specs.declared.names.Case.{Case}
use Rattle.protocol.specs.declared.names.ProcessId.{ProcessId}
use Rattle.protocol.specs.declared.names.Txn.{Txn}
use Rattle.protocol.specs.declared.messages.Envelope.{Envelope}
use Rattle.protocol.specs.declared.events.Happening.{Happening}
use Rattle.protocol_words.specs.Variants.{ActInput, Handles, MessageInput, Trimming}
use Rattle.protocol.specs.declared.events.Input.{Input}
use Rattle.protocol.specs.declared.events.Reaction.{Reaction}
use Rattle.protocol.specs.declared.events.StepError.{StepError}
use Rattle.protocol.specs.declared.events.StepError.TheVariants.{NoSuch}
use Rattle.protocol.specs.declared.trees.TreeProcess.{TreeProcess}
use Rattle.protocol.specs.Names.{same_process}
use Rattle.protocol.specs.Nodes.{place_of}
use Rattle.protocol.specs.Plays.{process_of_act}
use Rattle.protocol.specs.Trees.{IsTree, root_of}
use Rattle.protocol.specs.World.{InputStands, Made, World}
use Rattle.log_rules.specs.order.Logs.{Whole, read_log}
use Rattle.process_state.specs.States.{CoreState, form_of}
use Rattle.process_state.specs.Opening.{IsOpenedProcess}
use Rattle.tree_state.specs.Steps.{restart_of, trim_reaction}
use Rattle.tree_state.specs.Worlds.{DeviceFails, Enters, RestartFails, TrimFails, WorldState}
use Rattle.tree_state.specs.Runs.{IsOpenedTree}
use Rattle.proof_runs.specs.worlds.Follows.{FollowsBehindFaults, GoesOnBehindFaults}
use Rattle.proof_runs.specs.worlds.Modelled.{KeepsHeadline}
use Rattle.tree_process.specs.declared.reopening.ProcessReopenError.{ProcessReopenError}
use Rattle.tree_process.specs.declared.reopening.ProcessReopenError.TheVariants.{Damaged, OldFormat}
use Rattle.tree_process.specs.Reopenings.{ProcessNotReopened, ReopensAs, form_by, place_by}
use Rattle.node_lines.specs.declared.asked.NodeLine.{NodeLine}
use Rattle.node_lines.specs.declared.asked.NodeLine.TheVariants as asked
use Rattle.node_engine.specs.declared.failure.NodeFailure.{NodeFailure}
use Rattle.node_engine.specs.Answers.{AnswersAsked, AnswersIf, AnswersLine, NodeState, NodeTakes, TakesIf, TakesLine, hears, leaves_it, owed_at, takes_it}
use Rattle.node_engine.specs.Starts.{NamesOthers}
use Rattle.node_lines.specs.Speakers.{may_speak}
use Rattle.log_outcomes.specs.declared.news.News.{News}
use Rattle.node_answers.specs.Texts.{news_text, ok_text, refused_text}
use Rattle.proof_nodes.specs.Files.{FindsLog, KeepsFile}
use Rattle.proof_lives.specs.Lives.{counted_at}
use Rattle.proof_lives.specs.Outcomes.{NewsAreSo}

-- Where the nodes are.

-- a process of the tree is this node
pub record Sits (s : WorldState) (n : NodeState) : Type 0 where
  pub tree : n.tree ≡ s.tree
  pub core : s.node_at n.me ≡ Some n.core
  pub holdings : s.data_at n.me ≡ n.holdings

-- of the processes this one alone moves
pub record MovesAlone (s t : WorldState) (q : ProcessId) : Type 0 where
  pub tree : t.tree ≡ s.tree
  pub others : (p : ProcessId) → same_process q p ≡ false → t.node_at p ≡ s.node_at p
  pub others_data : (p : ProcessId) → same_process q p ≡ false → t.data_at p ≡ s.data_at p

-- nothing was sent, and no step was entered
pub record Silent (s t : WorldState) : Type 0 where
  pub net : t.net ≡ s.net
  pub delivered : t.delivered ≡ s.delivered
  pub entries : t.entries ≡ s.entries

-- Lines.

-- The net alters and invents nothing: a message that a node hears is one that was sent, whatever number it
-- has. It may come late, again, or never.
abbrev pub WasSent : List Envelope → NodeLine → Type 0
WasSent net (asked.Message n e) = (place : ℕ) × (slice_get net place ≡ Some e)
WasSent net _ = ⊤

-- The reaction to an input is entered, and its messages are sent; of a refusal nothing is.
abbrev pub EntersEnd : WorldState → WorldState → ProcessId → Happening → Result Reaction StepError → Type 0
EntersEnd s t q h (Ok reaction) = Enters s t q h reaction s.delivered
EntersEnd s t q h (Err e) = Silent s t

-- the reaction to a trim is entered; of a refusal nothing is
abbrev pub EntersTrim : WorldState → WorldState → ProcessId → Result ℕ StepError → Type 0
EntersTrim s t q (Ok remain) = Enters s t q Trimming (trim_reaction remain) s.delivered
EntersTrim s t q (Err e) = Silent s t

module _ (s t : WorldState) (old new : NodeState) where
  -- what is entered of an input that is answered: of one for another process nothing
  abbrev pub EntersAnswer : (mine : Bool) (input : Input) (text : List ℕ)
      → AnswersIf mine old new input text → Type 0
  EntersAnswer true input text h = EntersEnd s t old.me (Handles input) h.end
  EntersAnswer false input text h = Silent s t

  -- of an answer to what was asked
  abbrev pub EntersAnswered : (a : NodeLine) (text : List ℕ) → AnswersAsked a old new text → Type 0
  EntersAnswered asked.Nothing text h = Silent s t
  EntersAnswered (asked.Act a) text h =
      EntersAnswer (same_process (process_of_act (root_of old.tree) a) old.me) (ActInput a) text h
  EntersAnswered (asked.Message n e) text h =
      EntersAnswer (hears old e) (MessageInput n e.message) text h
  EntersAnswered asked.Trim text h = EntersTrim s t old.me h.end
  EntersAnswered asked.Doubt text h = Silent s t
  EntersAnswered (asked.Outcome x) text h = Silent s t
  EntersAnswered (asked.Again c) text h = Silent s t
  EntersAnswered asked.Status text h = Silent s t
  EntersAnswered asked.Log text h = Silent s t
  EntersAnswered asked.Data text h = Silent s t
  EntersAnswered asked.Help text h = Silent s t
  EntersAnswered asked.End text h = Silent s t
  EntersAnswered (asked.Resolve name) text h = Silent s t
  EntersAnswered asked.Unknown text h = Silent s t
  EntersAnswered asked.NoText text h = Silent s t

  -- of an input that was made or not, and is not answered
  abbrev pub EntersTake : (mine : Bool) (input : Input) (why : NodeFailure) → TakesIf mine old new input why
      → Type 0
  EntersTake true input why (takes_it h) = EntersEnd s t old.me (Handles input) h.end
  EntersTake true input why (leaves_it h) = Silent s t
  EntersTake false input why h = Silent s t

  -- of what was asked, and is not answered
  abbrev pub EntersTaken : (a : NodeLine) (why : NodeFailure) → NodeTakes a old new why → Type 0
  EntersTaken asked.Nothing why h = Silent s t
  EntersTaken (asked.Act a) why h =
      EntersTake (same_process (process_of_act (root_of old.tree) a) old.me) (ActInput a) why h
  EntersTaken (asked.Message n e) why h =
      EntersTake (hears old e) (MessageInput n e.message) why h
  EntersTaken asked.Trim why h = EntersTrim s t old.me h.end
  EntersTaken asked.Doubt why h = Silent s t
  EntersTaken (asked.Outcome x) why h = Silent s t
  EntersTaken (asked.Again c) why h = Silent s t
  EntersTaken asked.Status why h = Silent s t
  EntersTaken asked.Log why h = Silent s t
  EntersTaken asked.Data why h = Silent s t
  EntersTaken asked.Help why h = Silent s t
  EntersTaken asked.End why h = Silent s t
  EntersTaken (asked.Resolve name) why h = Silent s t
  EntersTaken asked.Unknown why h = Silent s t
  EntersTaken asked.NoText why h = Silent s t

-- A node answered a line, as `run_node` says: what it answers is what it did, and what it sent is in it.
pub record Answered (s t : WorldState) : Type 0 where
  pub old : NodeState
  pub new : NodeState
  pub was : Sits s old
  pub same : new.me ≡ old.me
  pub is : Sits t new
  pub alone : MovesAlone s t old.me
  pub line : List ℕ
  pub text : List ℕ
  pub answers : AnswersLine line old new text
  pub sent : WasSent s.net answers.asked
  pub entered : EntersAnswered s t old new answers.asked text answers.answers

-- A node made a line or not, and ended before it answered, as `run_node` says; what it would have sent is
-- lost.
pub record Unanswered (s t : WorldState) : Type 0 where
  pub old : NodeState
  pub new : NodeState
  pub was : Sits s old
  pub same : new.me ≡ old.me
  pub is : Sits t new
  pub alone : MovesAlone s t old.me
  pub line : List ℕ
  pub why : NodeFailure
  pub takes : TakesLine line old new why
  pub sent : WasSent s.net takes.asked
  pub entered : EntersTaken s t old new takes.asked why takes.takes

-- Starts.

-- A node started over what it found in the file that one before it left, as `start` says. Its restart is
-- entered with as many bytes as were found after those that were forced.
pub record Started (s t : WorldState) : Type 0 where
  pub entry : TreeProcess
  pub listed : find (λ e. same_process e.id entry.id) s.tree ≡ Some entry
  pub before : CoreState
  pub was : s.node_at entry.id ≡ Some before
  pub new : NodeState
  pub same : new.me ≡ entry.id
  pub is : Sits t new
  pub alone : MovesAlone s t entry.id
  pub bytes : List ℕ
  pub finds : FindsLog before bytes
  pub forced : ℕ
  pub failures : ℕ
  pub opening : Reaction
  pub reopens : ReopensAs s.tree entry bytes forced failures new.core new.holdings opening
  pub entered : Enters s t entry.id (restart_of before (length bytes - finds.forced)) opening s.delivered

-- A node started over a file that was just made, or in which no record came to be forced.
pub record StartedFirst (s t : WorldState) : Type 0 where
  pub entry : TreeProcess
  pub listed : find (λ e. same_process e.id entry.id) s.tree ≡ Some entry
  pub before : CoreState
  pub was : s.node_at entry.id ≡ Some before
  pub counted : ℕ
  pub heard_nothing : IsOpenedProcess before (place_of s.tree entry.id) counted
  pub new : NodeState
  pub same : new.me ≡ entry.id
  pub is : Sits t new
  pub alone : MovesAlone s t entry.id
  pub bytes : List ℕ
  pub torn : ℕ
  pub empty : read_log (form_by entry) bytes ≡ Whole [] torn
  pub forced : ℕ
  pub failures : ℕ
  pub opening : Reaction
  pub reopens : ReopensAs s.tree entry bytes forced failures new.core new.holdings opening
  pub silent : Silent s t

-- Steps.

-- A step of one of the nodes. One that ends within a line, within a trim or within its start leaves what a
-- failure of the device there leaves, as far as its file goes: a front of what it appended, of which some is
-- forced.
pub data NodeStep (s t : WorldState) : Type 0 where
  answers : Answered s t → NodeStep s t
  ends_unanswered : Unanswered s t → NodeStep s t
  ends_within : (q : ProcessId) (i : Input) → InputStands s.net q i → DeviceFails s t q i → NodeStep s t
  ends_in_trim : (q : ProcessId) → TrimFails s t q → NodeStep s t
  starts : Started s t → NodeStep s t
  starts_first : StartedFirst s t → NodeStep s t
  ends_in_start : (q : ProcessId) (failures keep : ℕ)
      → RestartFails (counted_at q failures s) t q (Some keep) → NodeStep s t

-- such steps, one after another, of whichever nodes
pub data NodeSteps (start : WorldState) : WorldState → Type 0 where
  none : NodeSteps start start
  more : (s t : WorldState) → NodeSteps start s → NodeStep s t → NodeSteps start t

-- The laws.

-- what a step of a node makes of a tree that stands for a run stands for one that goes on
abbrev pub StepsGoOn : Type 0
StepsGoOn = (s t : WorldState) (es : List Made) (w : World) → IsTree s.tree → FollowsBehindFaults es w s
    → NodeStep s t → GoesOnBehindFaults es w t

-- What the nodes of a tree come to, whichever end and start, and whatever the net loses, repeats and
-- reorders, is a run of the model, of which the headline holds, and in which mismatches are reported. A
-- process whose node was not started yet has opened and heard nothing.
abbrev pub NodesAreRuns : Type 0
NodesAreRuns = (tree : List TreeProcess) (s t : WorldState) → IsTree tree → IsOpenedTree s tree
    → NodeSteps s t
    → KeepsHeadline t

-- Where the state of a tree stands for a run, a message that was sent comes from one who may send it: no node
-- refuses it for its sender.
abbrev pub SentMaySpeak : Type 0
SentMaySpeak = (s : WorldState) (es : List Made) (w : World) → IsTree s.tree → FollowsBehindFaults es w s
    → (n : ℕ) (e : Envelope) → WasSent s.net (asked.Message n e) → may_speak s.tree e ≡ true

-- each of these messages was sent
abbrev pub WereSent : List Envelope → List Envelope → Type 0
WereSent net ms = AllByRecursion (λ m. (place : ℕ) × (slice_get net place ≡ Some m)) ms

-- Where the state of a tree stands for a run, what a node whose device works tells once more (`again`) are
-- messages that were sent before: the net may repeat them as it likes.
abbrev pub RepeatsWereSent : Type 0
RepeatsWereSent = (s : WorldState) (es : List Made) (w : World) → IsTree s.tree → FollowsBehindFaults es w s
    → (old : NodeState) → Sits s old → old.core.log.failed ≡ false → (c : Case) (ms : List Envelope)
    → owed_at old c ≡ Some ms → WereSent s.net ms

-- an answer tells how a transaction ended, if it tells an end at all, as it did
pub record TellsSo (w : World) (x : Txn) (text : List ℕ) : Type 0 where
  pub news : News
  pub text_is : text ≡ news_text x news ++ ok_text
  pub so : NewsAreSo w x news

-- it does so, or refuses to tell
abbrev pub TellsEnd : NodeState → World → Txn → List ℕ → Type 0
TellsEnd n w x text = TellsSo w x text ⊎ (text ≡ refused_text n.manner NoSuch)

-- Where the state of a tree stands for a run, what a node whose device works answers to `outcome` is the
-- outcome of that transaction; or it refuses to tell, as it is not its root.
abbrev pub OutcomesAreTold : Type 0
OutcomesAreTold = (s : WorldState) (es : List Made) (w : World) → FollowsBehindFaults es w s
    → (old new : NodeState) → Sits s old → old.core.log.failed ≡ false
    → (line text : List ℕ) (h : AnswersLine line old new text) (x : Txn) → h.asked ≡ asked.Outcome x
    → TellsEnd old w x text

-- a refusal that calls a log neither damaged nor one of the first format
abbrev pub CallsItRead : ProcessReopenError → Type 0
CallsItRead (Damaged place) = ⊥
CallsItRead OldFormat = ⊥
CallsItRead e = ⊤

-- Where the state of a tree stands for a run, what the next node finds of a process's log is what that left
-- of it: the forced records, and of the others those that stand whole within the bytes found after the forced
-- ones.
abbrev pub NodesFindTheirLogs : Type 0
NodesFindTheirLogs = (s : WorldState) (es : List Made) (w : World) → IsTree s.tree
    → FollowsBehindFaults es w s
    → (q : ProcessId) (c : CoreState) → s.node_at q ≡ Some c → (bytes : List ℕ) (h : FindsLog c bytes)
    → KeepsFile (form_of c.place) c bytes (length bytes - h.forced)

-- What was found of a process's own log names nobody else: at its next start no node calls it the log of
-- another process or of another tree.
abbrev pub OwnFilesAreAtHome : Type 0
OwnFilesAreAtHome = (s : WorldState) (es : List Made) (w : World) → IsTree s.tree → FollowsBehindFaults es w s
    → (e : TreeProcess) → find (λ x. same_process x.id e.id) s.tree ≡ Some e
    → (c : CoreState) → s.node_at e.id ≡ Some c → (bytes : List ℕ) → FindsLog c bytes
    → NamesOthers s.tree e bytes → ⊥

-- What was found of a process's own log is whole: at its next start no node calls it damaged, nor a log of
-- the first format.
module _ {L : Type 0} (bytes : L → List ℕ) (forced failures : L → ℕ) where
  abbrev pub OwnFilesAreRead : Type 0
  OwnFilesAreRead = (s : WorldState) (es : List Made) (w : World) → IsTree s.tree → FollowsBehindFaults es w s
      → (e : TreeProcess) → find (λ x. same_process x.id e.id) s.tree ≡ Some e
      → (c : CoreState) → s.node_at e.id ≡ Some c → (store : L) → FindsLog c (bytes store)
      → (error : ProcessReopenError) → ProcessNotReopened bytes forced failures (form_by e)
      (place_by s.tree e) store error
      → CallsItRead error
