-- The whole tree: every process, and every message ever sent. A step is made at one process.
use Rattle.std.specs.Prelude.{◌≡◌, ◌≤◌, ◌+◌, ◌-◌, length, ℕ, true, if◌then◌else◌, Option, Some, None, List, [], ◌∷◌, ◌++◌, slice_get, take, filter, ⊤}
use Rattle.protocol.specs.declared.names.ProcessId.{ProcessId}
use Rattle.protocol.specs.declared.messages.Message.{Message}
use Rattle.protocol.specs.declared.messages.Envelope.{Envelope}
use Rattle.protocol.specs.declared.events.Input.{Input}
use Rattle.protocol.specs.declared.events.Input.TheVariants.{Act as ActInput, Message as MessageInput}
use Rattle.protocol.specs.declared.events.Happening.{Happening}
use Rattle.protocol.specs.declared.events.Happening.TheVariants.{Input as Handles, Restart, Trim}
use Rattle.protocol.specs.declared.events.Fault.{Fault}
use Rattle.protocol.specs.declared.events.Step.{Step}
use Rattle.protocol.specs.declared.events.JournalEntry.{JournalEntry}
use Rattle.protocol.specs.declared.events.Reaction.{Reaction}
use Rattle.protocol.specs.declared.events.StepError.{StepError}
use Rattle.protocol.specs.declared.events.StepError.TheVariants.{Failed}
use Rattle.protocol.specs.declared.trees.TreeProcess.{TreeProcess}
use Rattle.protocol.specs.Names.{same_process}
use Rattle.protocol.specs.Nodes.{Place, place_of, is_listed, Node, opened_node, Heard, Version, Second, DataAnswer, Effect, no_effect, after, fails_in, reaction_of}
use Rattle.protocol.specs.Reactions.{Reacts, Refused, Does, is_passed_over, reacts}
use Rattle.protocol.specs.Restarts.{restart_effect, restarted, restart_fails, trim_effect, trims, trim_fails}

-- One process.

-- a step, with what a manager's data answer in it, and the version by which it is made
pub record Move : Type 0 where
  pub step : Step
  pub data_answer : DataAnswer
  pub version : Version

-- a move at its process: it is refused, or has an effect and leaves a process
pub data Stepped : Type 0 where
  Refuses : StepError → Stepped
  Makes : Effect → Node → Stepped

-- what a device's failure lets through of an effect: a front of the records that were appended; nothing is
-- sent or told
abbrev pub fault_effect : Effect → ℕ → Effect
fault_effect e appended =
    record {
      begun = None;
      written = take appended e.written;
      told = None;
      messages = [];
      accepts = e.accepts;
      counts = e.counts;
      remains = None;
    }

-- a move by an input: refused, or done, or broken off by a device's failure
abbrev pub input_makes : Node → Heard → Option Fault → Reacts → Stepped
input_makes n h fault (Refused e) = Refuses e
input_makes n h None (Does e) = Makes e (after n h e)
input_makes n h (Some f) (Does e) = Makes (fault_effect e f.appended) (fails_in n h e f.appended f.forced)

-- an input that is passed over: nothing moves; a device's failure fails the process
abbrev pub passes_over : Node → Option Fault → Stepped
passes_over n None = Makes no_effect n
passes_over n (Some f) = Makes no_effect (record n { failed = true })

-- a restart, with N unforced records left; a device's failure breaks it off
abbrev pub restart_makes : Place → Node → ℕ → Option Fault → Stepped
restart_makes place n k None = Makes (restart_effect place n k) (restarted place n k)
restart_makes place n k (Some f) = Makes (fault_effect (restart_effect place n k) f.appended)
    (restart_fails place n k f.appended f.forced)

-- a trim; a device's failure leaves the old log or the new one
abbrev pub trim_makes : Place → Node → Option Fault → Stepped
trim_makes place n None = Makes (trim_effect place n) (trims place n)
trim_makes place n (Some f) = Makes (fault_effect (trim_effect place n) 0) (trim_fails place n f.appended)

-- a move by what happens; a process that has failed refuses a trim
abbrev pub happening_makes : Place → Node → Move → Happening → Stepped
happening_makes place n m (Handles i) =
    let h : Heard = record { input = i; data_answer = m.data_answer; version = m.version } in
    if is_passed_over place n i then passes_over n m.step.fault
    else input_makes n h m.step.fault (reacts place n h)
happening_makes place n m (Restart k) = restart_makes place n k m.step.fault
happening_makes place n m Trim = if n.failed then Refuses Failed else trim_makes place n m.step.fault

-- a move of the process; one that has failed takes nothing but its restart
unfoldable pub node_makes : Place → Node → Move → Stepped
node_makes place n m = happening_makes place n m m.step.happening

-- The tree.

-- every process, and every message
pub record World : Type 0 where
  pub at : ProcessId → Node
  -- every message that was ever sent; the first has number 1
  pub net : List Envelope

-- every process has opened an empty log
abbrev pub opened_world : World
opened_world = record { at = λ q. opened_node; net = [] }

-- the processes, with this one at this id
abbrev pub put_at : ProcessId → Node → (ProcessId → Node) → ProcessId → Node
put_at q n f r = if same_process q r then n else f r

-- what a move at its process makes of the world
abbrev pub world_stepped : World → ProcessId → Stepped → Option (Effect × World)
world_stepped w q (Refuses e) = None
world_stepped w q (Makes e n) = Some (e, record { at = put_at q n w.at; net = w.net ++ e.messages })

-- what a move makes of the world; nothing where its process is not listed or refuses it
unfoldable pub world_makes : List TreeProcess → World → Move → Option (Effect × World)
world_makes tree w m =
    let q = m.step.process in
    if is_listed tree q then world_stepped w q (node_makes (place_of tree q) (w.at q) m) else None

-- a message that is in the net, for the process, whatever its number
pub record IsSent (net : List Envelope) (q : ProcessId) (number : ℕ) (message : Message) : Type 0 where
  pub sender : ProcessId
  pub place : ℕ
  pub stands : slice_get net place ≡ Some (record { from = sender; to = q; message = message })

-- a delivered message was sent to the process; an act may always come
abbrev pub InputStands : List Envelope → ProcessId → Input → Type 0
InputStands net q (ActInput a) = ⊤
InputStands net q (MessageInput number message) = IsSent net q number message

-- a delivered message was sent to the process; a loss is a message that is not delivered, a repeat one
-- delivered twice
abbrev pub MayHappen : List Envelope → ProcessId → Happening → Type 0
MayHappen net q (Handles i) = InputStands net q i
MayHappen net q _ = ⊤

-- Runs.

-- a move with its effect
pub record Made : Type 0 where
  pub move : Move
  pub effect : Effect

-- The moves made, the newest first, lead from the opened tree to the world.
pub data IsRun (tree : List TreeProcess) : List Made → World → Type 0 where
  opens : IsRun tree [] opened_world
  makes : (es : List Made) (w : World) (m : Move) (e : Effect) (w' : World)
      → IsRun tree es w
      → MayHappen w.net m.step.process m.step.happening
      → world_makes tree w m ≡ Some (e, w')
      → IsRun tree (record { move = m; effect = e } ∷ es) w'

-- The later moves, the newest first, lead from one world to another.
pub data Continues (tree : List TreeProcess) (start : World) : List Made → World → Type 0 where
  stays : Continues tree start [] start
  goes_on : (es : List Made) (w : World) (m : Move) (e : Effect) (w' : World)
      → Continues tree start es w
      → MayHappen w.net m.step.process m.step.happening
      → world_makes tree w m ≡ Some (e, w')
      → Continues tree start (record { move = m; effect = e } ∷ es) w'

-- Runs that are opened again.

-- a message that was sent since N were, for the process, under this number among those: the first has 1
pub record IsNumberedMessage (net : List Envelope) (before : ℕ) (q : ProcessId) (number : ℕ)
    (message : Message) : Type 0 where
  pub sender : ProcessId
  pub counted : 1 ≤ number
  pub stands : slice_get net (before + (number - 1)) ≡ Some
      (record { from = sender; to = q; message = message })

-- the number of a message that is delivered, among those that were sent since N were
abbrev pub InputIsNew : List Envelope → ℕ → ProcessId → Input → Type 0
InputIsNew net before q (ActInput a) = ⊤
InputIsNew net before q (MessageInput number message) = IsNumberedMessage net before q number message

-- what happens delivers no message of those that were sent before
abbrev pub IsNewInNet : List Envelope → ℕ → ProcessId → Happening → Type 0
IsNewInNet net before q (Handles i) = InputIsNew net before q i
IsNewInNet net before q _ = ⊤

-- every process of the tree is down
abbrev pub IsDown : List TreeProcess → World → Type 0
IsDown tree w = (q : ProcessId) → is_listed tree q ≡ true → (w.at q).failed ≡ true

-- The moves made, the newest first, lead from the opened tree to the world; since the tree was opened last,
-- and N messages had been sent, each was made by this version, and each message that was delivered was sent
-- since. A tree of which every process is down may be opened again, by the second version: then each process
-- goes on from its log.
pub data IsRunBy (tree : List TreeProcess) : Version → ℕ → List Made → World → Type 0 where
  first_opens : (v : Version) → IsRunBy tree v 0 [] opened_world
  next : (v : Version) (before : ℕ) (es : List Made) (w : World) (m : Move) (e : Effect) (w' : World)
      → IsRunBy tree v before es w
      → m.version ≡ v
      → IsNewInNet w.net before m.step.process m.step.happening
      → world_makes tree w m ≡ Some (e, w')
      → IsRunBy tree v before (record { move = m; effect = e } ∷ es) w'
  reopens : (v : Version) (before : ℕ) (es : List Made) (w : World) → IsRunBy tree v before es w
      → IsDown tree w → IsRunBy tree Second (length w.net) es w

-- The world is told process by process.

-- the moves of one process
unfoldable pub made_by : ProcessId → List Made → List Made
made_by q [] = []
made_by q (e ∷ es) = if same_process e.move.step.process q then e ∷ made_by q es else made_by q es

-- the process after a move; one that is refused leaves it as it was
abbrev pub node_left : Node → Stepped → Node
node_left n (Refuses e) = n
node_left n (Makes e n') = n'

-- a process is what its own moves make of it
unfoldable pub node_by : Place → List Made → Node
node_by place [] = opened_node
node_by place (e ∷ es) = node_left (node_by place es) (node_makes place (node_by place es) e.move)

-- the net is the messages of the moves, one after another
unfoldable pub net_by : List Made → List Envelope
net_by [] = []
net_by (e ∷ es) = net_by es ++ e.effect.messages

-- The journal.

-- the process of an entry
abbrev pub process_of_entry : JournalEntry → ProcessId
process_of_entry e = e.step.process

-- the entries of a process
unfoldable pub entries_of : ProcessId → List JournalEntry → List JournalEntry
entries_of q es = filter (λ e. same_process (process_of_entry e) q) es

-- how the journal shows what a step led to: a fault shows nothing, and its step names the front that it left
abbrev pub shown : Option Fault → Effect → Reaction
shown None e = reaction_of e
shown (Some f) e = reaction_of no_effect

-- how the journal shows a move
abbrev pub entry_of : Made → JournalEntry
entry_of e = record { step = e.move.step; reaction = shown e.move.step.fault e.effect }

-- moves, the newest first, as entries, the oldest first
unfoldable pub journal_of : List Made → List JournalEntry
journal_of [] = []
journal_of (e ∷ es) = journal_of es ++ entry_of e ∷ []

-- a list of entries whose steps are a run to the world
pub record IsJournal (tree : List TreeProcess) (entries : List JournalEntry) (world : World) : Type 0 where
  pub moves : List Made
  pub is_run : IsRun tree moves world
  pub are_entries : journal_of moves ≡ entries

-- each move was made by this version
abbrev pub AllBy : Version → List Made → Type 0
AllBy v [] = Unit {0}
AllBy v (e ∷ es) = (e.move.version ≡ v) × AllBy v es
