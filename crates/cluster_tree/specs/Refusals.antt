-- Why an event was not posted, and why a settle went no further.
use Rattle.std.specs.Prelude.{◌≡◌, ◌⊎◌, ℕ, Some, None, List, false}
use Rattle.protocol.specs.declared.names.ProcessId.{ProcessId}
use Rattle.protocol.specs.declared.messages.Envelope.{Envelope}
use Rattle.protocol.specs.declared.events.JournalEntry.{JournalEntry}
use Rattle.protocol.specs.declared.events.Event.{Event}
use Rattle.protocol.specs.declared.events.Event.TheVariants.{Deliver, Settle}
use Rattle.protocol.specs.declared.events.StepError.TheVariants.{NoSuch}
use Rattle.protocol.specs.declared.trees.TreeProcess.{TreeProcess}
use Rattle.protocol.specs.Nodes.{is_listed}
use Rattle.protocol.specs.Plays.{sent_as}
use Rattle.protocol.specs.Trees.{root_of}
use Rattle.tree_state.specs.Cuts.{net_of}
use Rattle.proof_cuts.specs.Owns.{CutHolds}
use Rattle.cluster_ties.specs.Views.{entries_in, pairs_by}
use Rattle.cluster_process.specs.declared.errors.PostError.{PostError}
use Rattle.cluster_process.specs.declared.errors.PostError.TheVariants.{Stranger, Step, Memory}
use Rattle.cluster_process.specs.Passes.{PassState}
use Rattle.cluster_process.specs.Posts.{NotPosted}
use Rattle.cluster_tree.specs.Posts.{IsOf}

-- The journal was this one once: a run of the tree, which had just the pass's pairs under its number.
pub record WasJournal (tree : List TreeProcess) (pass : PassState)
    (journal : List (ℕ × JournalEntry)) : Type 0 where
  pub run : CutHolds tree (entries_in journal)
  pub met : pass.pairs ≡ pairs_by pass.caller 0 journal

-- it had the message with this number, which was sent to this process
pub record IsReceiver (tree : List TreeProcess) (pass : PassState) (q : ProcessId) (number : ℕ) : Type 0 where
  pub journal : List (ℕ × JournalEntry)
  pub was : WasJournal tree pass journal
  pub envelope : Envelope
  pub sent : sent_as (net_of (entries_in journal)) number ≡ Some envelope
  pub receiver : q ≡ envelope.to

-- it had no message with the number of this event
pub record NoMessage (tree : List TreeProcess) (event : Event) (pass : PassState)
    (e : PostError) : Type 0 where
  pub number : ℕ
  pub is : event ≡ Deliver number
  pub journal : List (ℕ × JournalEntry)
  pub was : WasJournal tree pass journal
  pub none : sent_as (net_of (entries_in journal)) number ≡ None
  pub answered : e ≡ Stranger

-- the event is of this process: an act of its own, its restart or trim, or a message that was sent to it
abbrev pub IsAddressed : List TreeProcess → PassState → ProcessId → Event → Type 0
IsAddressed tree pass q (Deliver number) = IsReceiver tree pass q number
IsAddressed tree pass q event = IsOf (root_of tree) q event

-- there is no process of this name; or there is, and the event was not posted there
abbrev pub NotAt : List TreeProcess → ProcessId → Event → PassState → PostError → Type 0
NotAt tree q event pass e =
    ((is_listed tree q ≡ false) × (e ≡ Step NoSuch)) ⊎ NotPosted tree q event pass e

-- the process whose event it is has not made it
pub record NotPostedBy (tree : List TreeProcess) (event : Event) (pass : PassState)
    (e : PostError) : Type 0 where
  pub process : ProcessId
  pub addressed : IsAddressed tree pass process event
  pub refused : NotAt tree process event pass e

-- Why an event was not posted with this pass: it is a settle; memory was refused; there is no message with
-- its number; or its process has not made it.
abbrev pub IsRefusedPost : List TreeProcess → Event → PassState → PostError → Type 0
IsRefusedPost tree event pass e =
    ((event ≡ Settle) × (e ≡ Stranger))
    ⊎ ((e ≡ Memory) ⊎ (NoMessage tree event pass e ⊎ NotPostedBy tree event pass e))

-- a message was not delivered to a process, by whoever has some pass
pub record NotDelivered (tree : List TreeProcess) (e : PostError) : Type 0 where
  pub to : ProcessId
  pub number : ℕ
  pub pass : PassState
  pub refused : NotAt tree to (Deliver number) pass e

-- why a settle went no further: memory was refused, or a message was not delivered
abbrev pub NotSettled : List TreeProcess → PostError → Type 0
NotSettled tree e = (e ≡ Memory) ⊎ NotDelivered tree e
