-- What each process made by itself, with its data: a tree on one thread that makes the events of all makes
-- the same.
use Rattle.std.specs.Prelude.{◌≡◌, ⊤, ℕ, true, false, None, Some, List, [], ◌∷◌, ◌++◌}
use Rattle.protocol.specs.declared.names.ProcessId.{ProcessId}
use Rattle.protocol.specs.declared.messages.Message.{Message}
use Rattle.protocol.specs.declared.events.JournalEntry.{JournalEntry}
use Rattle.protocol.specs.declared.events.Event.{Event}
use Rattle.protocol_words.specs.event
use Rattle.protocol.specs.declared.events.Happening.{Happening}
use Rattle.protocol.specs.declared.events.Happening.TheVariants.{Restart, Trim}
use Rattle.protocol_words.specs.Variants.{ActInput, Handles, MessageInput}
use Rattle.protocol.specs.declared.events.Reaction.{Reaction}
use Rattle.protocol.specs.declared.trees.TreeProcess.{TreeProcess}
use Rattle.protocol.specs.Nodes.{is_listed}
use Rattle.protocol.specs.Plays.{process_of_act}
use Rattle.protocol.specs.Trees.{root_of}
use Rattle.protocol.specs.World.{entries_of}
use Rattle.log_records.specs.Sights.{left_by}
use Rattle.process_state.specs.States.{CoreState, SameCore}
use Rattle.process_state.specs.Restarting.{ProcessRestarts, ProcessTrims}
use Rattle.resource_manager.specs.Data.{ManagerData, DataRests, no_data}
use Rattle.tree_state.specs.Steps.{KeepsSoundLog, records_kept, trim_reaction}
use Rattle.tree_state.specs.Runs.{IsOpenedTree, NodeOpened}
use Rattle.tree_state.specs.Worlds.{Applies, HandlesInput, RestartsData, SameTree, TrimsData, WorldState}
use Rattle.tree_state.specs.Cuts.{AreGiven, net_of}

-- One step.

-- what happens is what this event asks for
abbrev pub AsksFor : Event → Happening → Type 0
AsksFor (event.Act a) h = h ≡ Handles (ActInput a)
AsksFor (event.Deliver k) h = (m : Message) × (h ≡ Handles (MessageInput k m))
AsksFor event.Settle h = ⊥
AsksFor (event.Restart p bytes) h = (k : ℕ) × (h ≡ Restart k)
AsksFor (event.Trim p) h = h ≡ Trim

-- an act is one of this process's, in a tree with this root
abbrev pub IsMine : ProcessId → ProcessId → Happening → Type 0
IsMine root q (Handles (ActInput a)) = process_of_act root a ≡ q
IsMine root q _ = ⊤

-- a process restarts, and keeps N bytes after its forced front, which hold as many records as are shown; a
-- manager's data are what these records promise
pub record RestartsAlone (s t : CoreState) (e : ManagerData) (keep shown : ℕ) (r : Reaction) : Type 0 where
  pub restarts : ProcessRestarts s keep t r
  pub holdings : RestartsData s.place.role (left_by s.log keep) e
  pub kept : shown ≡ records_kept s keep

-- the log of a process that is up is trimmed, N records remain, and a manager's data stay
pub record TrimsAlone (s t : CoreState) (d e : ManagerData) (remain : ℕ) : Type 0 where
  pub works : s.log.failed ≡ false
  pub sound : KeepsSoundLog s
  pub trims : ProcessTrims s t remain
  pub holdings : TrimsData s.place.role d e

-- What a process makes of what happens, from this state and these data to those, and what it shows; a restart
-- keeps N bytes after the forced front.
abbrev pub MakesAlone : CoreState → CoreState → ManagerData → ManagerData → ℕ → Happening → Reaction → Type 0
MakesAlone s t d e keep (Handles i) r = HandlesInput s t d e i r
MakesAlone s t d e keep (Restart k) r = RestartsAlone s t e keep k r
MakesAlone s t d e keep Trim r = (remain : ℕ) × TrimsAlone s t d e remain × (r ≡ trim_reaction remain)

-- The entry is of a step that this process made so, in which no device failed.
pub record StepAlone (tree : List TreeProcess) (q : ProcessId) (s t : CoreState) (d e : ManagerData)
    (x : JournalEntry) : Type 0 where
  pub process : x.step.process ≡ q
  pub unfailed : x.step.fault ≡ None
  pub mine : IsMine (root_of tree) q x.step.happening
  pub keep : ℕ
  pub makes : MakesAlone s t d e keep x.step.happening x.reaction

-- Steps one after another.

-- The process opened over an empty log, without data, and made the steps of these entries, one after another;
-- where it was refused meanwhile nothing is otherwise.
pub data RunsAlone (tree : List TreeProcess) (q : ProcessId) : List JournalEntry → CoreState → ManagerData
    → Type 0 where
  opens_alone : (s : CoreState) (d : ManagerData) → NodeOpened tree q s → DataRests no_data d
      → RunsAlone tree q [] s d
  stays_alone : (xs : List JournalEntry) (s t : CoreState) (d e : ManagerData) → RunsAlone tree q xs s d
      → SameCore s t → DataRests d e → RunsAlone tree q xs t e
  steps_alone : (xs : List JournalEntry) (x : JournalEntry) (s t : CoreState) (d e : ManagerData)
      → RunsAlone tree q xs s d
      → StepAlone tree q s t d e x → RunsAlone tree q (xs ++ x ∷ []) t e

-- All processes.

-- each of these events asks for what happens in one of these entries, in order
abbrev pub AskForAll : List JournalEntry → List Event → Type 0
AskForAll [] [] = Unit {0}
AskForAll [] (e ∷ es) = ⊥
AskForAll (x ∷ xs) [] = ⊥
AskForAll (x ∷ xs) (e ∷ es) = AsksFor e x.step.happening × AskForAll xs es

-- The events were made, one after another. Before each of them and after the last nothing is otherwise, as it
-- is where an event is refused.
abbrev pub EventsLeadOn : WorldState → List Event → WorldState → Type 0
EventsLeadOn old [] new = SameTree old new
EventsLeadOn old (e ∷ es) new =
    (before : WorldState) × (behind : WorldState) × SameTree old before × Applies before e behind
    × EventsLeadOn behind es new

-- A tree on one thread opened, and made the events of these entries, which are its journal; each process is
-- left so, with these data.
pub record MadeTogether (tree : List TreeProcess) (xs : List JournalEntry) (core : ProcessId → CoreState)
    (held : ProcessId → ManagerData) : Type 0 where
  pub start : WorldState
  pub end : WorldState
  pub events : List Event
  pub opens : IsOpenedTree start tree
  pub ask : AskForAll xs events
  pub leads : EventsLeadOn start events end
  pub tree_is : end.tree ≡ tree
  pub net : end.net ≡ net_of xs
  pub entries : end.entries ≡ xs
  pub listed : (q : ProcessId) → is_listed tree q ≡ false → end.node_at q ≡ None
  pub nodes : (q : ProcessId) → is_listed tree q ≡ true → end.node_at q ≡ Some (core q)
  pub holdings : (q : ProcessId) → is_listed tree q ≡ true → end.data_at q ≡ held q

-- Where each entry of a journal may come where it does, and each process of the tree made its own by itself,
-- a tree on one thread that makes the events of all of them leaves each process so.
abbrev pub AloneIsTogether : Type 0
AloneIsTogether = (tree : List TreeProcess) (xs : List JournalEntry) (core : ProcessId → CoreState)
    (held : ProcessId → ManagerData) → AreGiven tree xs
    → ((q : ProcessId) → is_listed tree q ≡ true → RunsAlone tree q (entries_of q xs) (core q) (held q))
    → MadeTogether tree xs core held
