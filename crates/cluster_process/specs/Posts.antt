-- What was posted.
use Rattle.std.specs.Prelude.{◌≡◌, ◌⊎◌, ℕ, All, Option, List, ◌∷◌, length}
use Rattle.protocol.specs.declared.names.ProcessId.{ProcessId}
use Rattle.protocol.specs.declared.names.Txn.{Txn}
use Rattle.protocol.specs.declared.events.JournalEntry.{JournalEntry}
use Rattle.protocol.specs.declared.events.Event.{Event}
use Rattle.protocol.specs.declared.events.Event.TheVariants.{Deliver, Restart}
use Rattle.protocol.specs.declared.events.Happening.{Happening}
use Rattle.protocol.specs.declared.events.StepError.{StepError}
use Rattle.protocol_words.specs.step_error
use Rattle.protocol.specs.declared.messages.Envelope.{Envelope}
use Rattle.protocol.specs.declared.trees.TreeProcess.{TreeProcess}
use Rattle.protocol.specs.World.{entries_of}
use Rattle.process_state.specs.States.{CoreState}
use Rattle.tree_state.specs.Steps.{restart_of}
use Rattle.tree_state.specs.Worlds.{KeepsBytes}
use Rattle.resource_manager.specs.Data.{ManagerData}
use Rattle.proof_cuts.specs.Alone.{AsksFor, RunsAlone, StepAlone}
use Rattle.tree_state.specs.Cuts.{net_of}
use Rattle.proof_cuts.specs.Owns.{CutHolds}
use Rattle.proof_cuts.specs.Turns.{GoesAlone}
use Rattle.cluster_ties.specs.Views.{entries_in, pairs_by}
use Rattle.cluster_process.specs.declared.errors.PostError.{PostError}
use Rattle.cluster_process.specs.declared.errors.PostError.TheVariants.{Stranger, JournalFull, Step, Memory}
use Rattle.cluster_process.specs.Makes.{NotMadeIt}
use Rattle.cluster_process.specs.Marks.{Happens, NotMarked}
use Rattle.cluster_process.specs.Passes.{NotesAll, NotesOne, PassState}
use Rattle.cluster_process.specs.Turns.{IsDeliveryAt}

-- how a step's refusal is answered
abbrev pub post_error : StepError → PostError
post_error step_error.Memory = Memory
post_error e = Step e

-- the number that is printed
abbrev pub post_error_number : PostError → ℕ
post_error_number Stranger = 1
post_error_number JournalFull = 2
post_error_number (Step e) = 3
post_error_number Memory = 4

-- What happens is what this event asks of a process that keeps this: a restart keeps N bytes after the forced
-- front as it names.
abbrev pub AsksAt : CoreState → Event → Happening → Type 0
AsksAt s (Restart p bytes) h = (keep : ℕ) × KeepsBytes s bytes keep × (h ≡ restart_of s keep)
AsksAt s event h = AsksFor event h

-- The event was posted at this process: the pass has one pair more, of the answered place, from 0, and an
-- entry of the event, whose transaction begun is the one answered. Before it the process had made these
-- entries by itself, with its data, and then it made this one, as the event asks of it there.
pub record PostsOne (tree : List TreeProcess) (q : ProcessId) (event : Event)
    (old new : PassState) (place : ℕ)
    (begun : Option Txn) : Type 0 where
  pub entry : JournalEntry
  pub notes : NotesOne old new place entry
  pub own : List JournalEntry
  pub before : CoreState
  pub behind : CoreState
  pub held : ManagerData
  pub kept : ManagerData
  pub ran : RunsAlone tree q own before held
  pub step : StepAlone tree q before behind held kept entry
  pub is_for : AsksAt before event entry.step.happening
  pub begun_is : begun ≡ entry.reaction.begun

-- A turn of deliveries at this process: the pass has the pairs of these entries more, of which the first is
-- at the answered place. Before them the process had made these entries by itself, with its data, and then it
-- made these, one after another: the first delivers the message with this number, and each of the others some
-- message to the process.
pub record DeliversTurn (tree : List TreeProcess) (q : ProcessId) (number : ℕ) (old new : PassState)
    (place : ℕ) : Type 0 where
  pub net : List Envelope
  pub first : ℕ × JournalEntry
  pub more : List (ℕ × JournalEntry)
  pub notes : NotesAll old new place (first ∷ more)
  pub own : List JournalEntry
  pub before : CoreState
  pub behind : CoreState
  pub held : ManagerData
  pub kept : ManagerData
  pub ran : RunsAlone tree q own before held
  pub goes : GoesAlone tree q before held (entries_in (first ∷ more)) behind kept
  pub delivers_it : AsksFor (Deliver number) first.1.step.happening
  pub deliver : All (IsDeliveryAt net q) (entries_in more)

-- Of what the event asks of a process that stands so, where these messages were sent, nothing was made: the
-- process refused it, as its data answer, and is as it was.
pub record RefusesThere (net : List Envelope) (q : ProcessId) (stood : CoreState)
    (held : ManagerData) (event : Event)
    (e : PostError) : Type 0 where
  pub happening : Happening
  pub keep : ℕ
  pub asks : Happens net q stood event happening keep
  pub why : StepError
  pub left : CoreState
  pub left_data : ManagerData
  pub not_made : NotMadeIt stood left held left_data happening why
  pub answered : e ≡ post_error why

-- The process refused the event: it had made just the entries that this journal has of it, by itself.
pub record RefusedBy (tree : List TreeProcess) (q : ProcessId)
    (journal : List (ℕ × JournalEntry)) (event : Event)
    (e : PostError) : Type 0 where
  pub stood : CoreState
  pub held : ManagerData
  pub ran : RunsAlone tree q (entries_of q (entries_in journal)) stood held
  pub refuses : RefusesThere (net_of (entries_in journal)) q stood held event e

-- Why an event was not posted at this process with this pass: when its step was to be marked, the journal was
-- a run of the tree, and had just the pass's pairs under its number; and either the step was not marked, or
-- the process refused it.
pub record NotPosted (tree : List TreeProcess) (q : ProcessId) (event : Event) (pass : PassState)
    (e : PostError) : Type 0 where
  pub journal : List (ℕ × JournalEntry)
  pub run : CutHolds tree (entries_in journal)
  pub met : pass.pairs ≡ pairs_by pass.caller 0 journal
  pub why : NotMarked (net_of (entries_in journal)) (length journal) q event e
      ⊎ RefusedBy tree q journal event e
