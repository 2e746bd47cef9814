-- What an event asks of a process, and why it is not marked.
use Rattle.std.specs.Prelude.{◌≡◌, ◌≢◌, ◌≤◌, ⊤, ℕ, Option, Some, None, List}
use Rattle.protocol.specs.declared.names.ProcessId.{ProcessId}
use Rattle.protocol.specs.declared.messages.Envelope.{Envelope}
use Rattle.protocol.specs.declared.events.Event.{Event}
use Rattle.protocol.specs.declared.events.Event.TheVariants.{Deliver, Settle, Restart, Trim}
use Rattle.protocol_words.specs.Variants.{ActInput, ActOf, Handles, MessageInput, Trimming}
use Rattle.protocol.specs.declared.events.Happening.{Happening}
use Rattle.protocol.specs.Plays.{process_of_act, sent_as}
use Rattle.process_state.specs.States.{CoreState}
use Rattle.tree_state.specs.Steps.{restart_of}
use Rattle.tree_state.specs.Worlds.{KeepsBytes}
use Rattle.cluster_process.specs.declared.errors.PostError.{PostError}
use Rattle.cluster_process.specs.declared.errors.PostError.TheVariants.{Stranger, JournalFull, Step, Memory}
use Rattle.cluster_process.specs.declared.marked.MarkedStep.{MarkedStep}
use Rattle.cluster_process.specs.Makes.{FitsNode, IsAt}

-- the message with this number was sent to this process, and is delivered
pub record Delivers (net : List Envelope) (me : ProcessId) (number : ℕ) (h : Happening) : Type 0 where
  pub envelope : Envelope
  pub sent : sent_as net number ≡ Some envelope
  pub receiver : envelope.to ≡ me
  pub happens : h ≡ Handles (MessageInput number envelope.message)

-- What happens by an event at a process that keeps this, where these messages were sent; a restart keeps N
-- bytes after the forced front, and shows how many records that keeps.
abbrev pub Happens : List Envelope → ProcessId → CoreState → Event → Happening → ℕ → Type 0
Happens net me s (ActOf a) h keep = h ≡ Handles (ActInput a)
Happens net me s (Deliver k) h keep = Delivers net me k h
Happens net me s Settle h keep = ⊥
Happens net me s (Restart p bytes) h keep = (p ≡ me) × KeepsBytes s bytes keep × (h ≡ restart_of s keep)
Happens net me s (Trim p) h keep = (p ≡ me) × (h ≡ Trimming)

-- an act is one of this process's, in a tree with this root
abbrev pub ActsHere : ProcessId → ProcessId → Event → Type 0
ActsHere root me (ActOf a) = me ≡ process_of_act root a
ActsHere root me _ = ⊤

-- the message was not sent to this process
abbrev pub IsNotFor : ProcessId → Option Envelope → Type 0
IsNotFor me None = ⊤
IsNotFor me (Some l) = l.to ≢ me

-- the event is none of this process's: a settle, a message that was not sent to it, or another's restart or
-- trim
abbrev pub IsStrange : List Envelope → ProcessId → Event → Type 0
IsStrange net me (ActOf a) = ⊥
IsStrange net me (Deliver k) = IsNotFor me (sent_as net k)
IsStrange net me Settle = ⊤
IsStrange net me (Restart p bytes) = p ≢ me
IsStrange net me (Trim p) = p ≢ me

-- Why a step was not marked: the event is none of the process's; or it is one, and the journal, of N entries,
-- is full. Want of memory may come at any time.
abbrev pub NotMarked : List Envelope → ℕ → ProcessId → Event → PostError → Type 0
NotMarked net entries me event Stranger = IsStrange net me event
NotMarked net entries me event JournalFull = (IsStrange net me event → ⊥) × (1000000 ≤ entries)
NotMarked net entries me event (Step e) = ⊥
NotMarked net entries me event Memory = ⊤

-- the marked step is the one that the event asks of the process
pub record IsMarked (net : List Envelope) (me : ProcessId) (s : CoreState) (event : Event)
    (m : MarkedStep) : Type 0 where
  pub at : IsAt me m.wanted
  pub happens : Happens net me s event m.wanted.step.happening m.keep
  pub fits : FitsNode s m.keep m.wanted.step.happening
