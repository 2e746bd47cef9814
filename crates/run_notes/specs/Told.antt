-- What is told of the steps of a run, and of which steps.
use Rattle.std.specs.Prelude.{◌≡◌, ◌⊎◌, ℕ, Bool, true, false, not, ◌&&◌, ◌||◌, ◌==◌, if◌then◌else◌, Option, Some, None, List, [], ◌∷◌, ◌++◌, count_by}
use Rattle.std.specs.List.{list_any}
use Rattle.std.specs.Map.{keys_of, lookup}
use Rattle.protocol.specs.declared.events.JournalEntry.{JournalEntry}
use Rattle.protocol.specs.declared.events.Happening.{Happening}
use Rattle.protocol.specs.declared.events.Happening.TheVariants.{Restart, Trim}
use Rattle.protocol_words.specs.Variants.{ActInput, Handles, MessageInput}
use Rattle.protocol.specs.declared.events.Input.{Input}
use Rattle.protocol.specs.declared.events.Reaction.{Reaction}
use Rattle.protocol.specs.declared.messages.Envelope.{Envelope}
use Rattle.protocol.specs.declared.messages.Message.{Message}
use Rattle.protocol.specs.declared.messages.Message.TheVariants.{No, Prepare, Work}
use Rattle.protocol.specs.declared.names.Kind.{Kind}
use Rattle.protocol.specs.declared.names.Kind.TheVariants.{Coordinator, Manager as ManagerKind}
use Rattle.protocol.specs.declared.names.ProcessId.{ProcessId}
use Rattle.protocol.specs.contracts.names.ProcessIdPartialEq.TheImpl as processes
use Rattle.protocol.specs.declared.trees.TreeProcess.{TreeProcess}
use Rattle.run_notes.specs.declared.manager.Manager.{Manager}
use Rattle.run_notes.specs.declared.notes.Notes.{Notes}
use Rattle.run_notes.specs.Managers.{told_of_work, why_no}
use Rattle.run_notes.specs.Words.{IsNo, IsRead}

-- The managers.

-- two processes are one
abbrev pub same_id : ProcessId → ProcessId → Bool
same_id = processes.ghosts.eq

-- this is the kind of managers
abbrev pub is_manager_kind : Kind → Bool
is_manager_kind Coordinator = false
is_manager_kind ManagerKind = true

-- an entry of a tree is of a manager with this name
abbrev pub is_manager_entry : ProcessId → TreeProcess → Bool
is_manager_entry p e = is_manager_kind e.kind && same_id p e.id

-- a process of a tree is a manager
abbrev pub is_manager : List TreeProcess → ProcessId → Bool
is_manager tree p = list_any (is_manager_entry p) tree

-- the manager with this name, if it is known
abbrev pub manager_in : List (ProcessId × Manager) → ProcessId → Option Manager
manager_in ms p = lookup (same_id p) ms

-- the managers that the notes know
abbrev pub known : Notes → List ProcessId
known n = keys_of n.managers.entries

-- one of these processes has this name
abbrev pub is_among : ProcessId → List ProcessId → Bool
is_among p ps = list_any (same_id p) ps

-- a process with this name is among the second ones if it is among the first or the manager of this entry
abbrev pub AddsManager : TreeProcess → List ProcessId → List ProcessId → Type 0
AddsManager e old new = (p : ProcessId) → is_among p new ≡ (is_among p old || is_manager_entry p e)

-- these are the managers of a tree
abbrev pub AreManagers : List TreeProcess → List ProcessId → Type 0
AreManagers tree ps = (p : ProcessId) → is_among p ps ≡ is_manager tree p

-- The steps.

-- a message is the vote NO
abbrev pub is_no : Message → Bool
is_no (No c) = true
is_no m = false

-- a reaction has the vote NO
abbrev pub votes_no : Reaction → Bool
votes_no r = not (count_by (λ (e : Envelope). is_no e.message) r.messages == 0)

-- a message asks for a vote
abbrev pub asks_message : Message → Bool
asks_message (Prepare c works) = true
asks_message m = false

abbrev pub asks_input : Input → Bool
asks_input (ActInput a) = false
asks_input (MessageInput n m) = asks_message m

-- what happens is that a question for a vote comes
abbrev pub asks : Happening → Bool
asks (Handles i) = asks_input i
asks (Restart kept) = false
asks Trim = false

-- a step answers a question for a vote by NO
abbrev pub refuses : JournalEntry → Bool
refuses e = asks e.step.happening && votes_no e.reaction

-- What is told.

-- what is told of a message that comes to a manager, which reacts so
abbrev pub told_of_message : Manager → Message → Reaction → Option (List ℕ)
told_of_message m (Work c i op) r = told_of_work m c i op
told_of_message m (Prepare c works) r = if votes_no r then Some (why_no m c works) else None
told_of_message m other r = None

abbrev pub told_of_input : Manager → Input → Reaction → Option (List ℕ)
told_of_input m (ActInput a) r = None
told_of_input m (MessageInput n message) r = told_of_message m message r

-- what is told of what happens at a manager, which reacts so
abbrev pub told_at : Manager → Happening → Reaction → Option (List ℕ)
told_at m (Handles i) r = told_of_input m i r
told_at m (Restart kept) r = None
told_at m Trim r = None

-- what is told of a step of a process, if it is this manager
abbrev pub told_by : Option Manager → JournalEntry → Option (List ℕ)
told_by None e = None
told_by (Some m) e = told_at m e.step.happening e.reaction

-- what is told of the next step of a run
abbrev pub told : Notes → JournalEntry → Option (List ℕ)
told n e = told_by (manager_in n.managers.entries e.step.process) e

-- these words may be told of a message that came to a manager, which reacted so: of a work what its get read,
-- and of a question for a vote, which the manager answered by NO, why
abbrev pub MayTellOf : Message → Reaction → List ℕ → Type 0
MayTellOf (Work c i op) r w = IsRead c op w
MayTellOf (Prepare c works) r w = (votes_no r ≡ true) × IsNo c w
MayTellOf message r w = ⊥

abbrev pub MayTellOfInput : Input → Reaction → List ℕ → Type 0
MayTellOfInput (ActInput a) r w = ⊥
MayTellOfInput (MessageInput n m) r w = MayTellOf m r w

abbrev pub MayTellAt : Happening → Reaction → List ℕ → Type 0
MayTellAt (Handles i) r w = MayTellOfInput i r w
MayTellAt (Restart kept) r w = ⊥
MayTellAt Trim r w = ⊥

-- these words may be told of a step of a manager
abbrev pub MayTell : JournalEntry → List ℕ → Type 0
MayTell e w = MayTellAt e.step.happening e.reaction w

-- These words are the note of a step of a tree, where no words say that nothing is told: only a step of a
-- manager has one, and each has one by which the manager answers a question for a vote by NO.
pub record IsNote (tree : List TreeProcess) (e : JournalEntry) (words : List ℕ) : Type 0 where
  pub only : (words ≡ []) ⊎ ((is_manager tree e.step.process ≡ true) × MayTell e words)
  pub each : is_manager tree e.step.process ≡ true → refuses e ≡ true → MayTell e words

-- these are the notes of these steps, one each, in their order
pub data AreNotes (tree : List TreeProcess) : List JournalEntry → List (List ℕ) → Type 0 where
  nothing : AreNotes tree [] []
  one_more : (es : List JournalEntry) (notes : List (List ℕ)) (e : JournalEntry) (words : List ℕ)
      → AreNotes tree es notes → IsNote tree e words → AreNotes tree (es ++ e ∷ []) (notes ++ words ∷ [])
