-- Turns: what a process is marked to do, and what it makes of that.
use Rattle.std.specs.Prelude.{◌≡◌, ⊤, ℕ, All, List, [], ◌∷◌, ◌++◌}
use Rattle.protocol.specs.declared.names.ProcessId.{ProcessId}
use Rattle.protocol.specs.declared.messages.Envelope.{Envelope}
use Rattle.protocol.specs.declared.events.JournalEntry.{JournalEntry}
use Rattle.protocol.specs.declared.trees.TreeProcess.{TreeProcess}
use Rattle.process_state.specs.States.{CoreState}
use Rattle.resource_manager.specs.Data.{ManagerData}
use Rattle.proof_cuts.specs.Alone.{MakesAlone}
use Rattle.proof_cuts.specs.Owns.{OwnRun}
use Rattle.proof_cuts.specs.Turns.{AllGiven, GoesAlone}
use Rattle.cluster_journal.specs.declared.marks.MarkedMessage.{MarkedMessage}
use Rattle.cluster_journal.specs.Marks.{IsNextOpen}
use Rattle.cluster_ties.specs.Views.{AreBy, entries_in}
use Rattle.cluster_process.specs.declared.making.Made.{Made}
use Rattle.cluster_process.specs.Makes.{IsAt}
use Rattle.cluster_process.specs.Marks.{Delivers}

-- the entry is of the delivery of the message with this number, which was sent to the process
pub record IsNext (net : List Envelope) (q : ProcessId) (number : ℕ) (x : JournalEntry) : Type 0 where
  pub at : IsAt q x
  pub delivers : Delivers net q number x.step.happening

-- the entry is of the delivery of a message to the process
pub record IsDeliveryAt (net : List Envelope) (q : ProcessId) (x : JournalEntry) : Type 0 where
  pub number : ℕ
  pub is : IsNext net q number x

-- each of these entries delivers the message with the number beside it
abbrev pub AreNumbered : List Envelope → ProcessId → List ℕ → List JournalEntry → Type 0
AreNumbered net q [] [] = ⊤
AreNumbered net q [] (x ∷ xs) = ⊥
AreNumbered net q (k ∷ ks) [] = ⊥
AreNumbered net q (k ∷ ks) (x ∷ xs) = IsNext net q k x × AreNumbered net q ks xs

-- each of these numbers is that of the next open message to the process after the one before it
abbrev pub AreOpen : ProcessId → List MarkedMessage → ℕ → List ℕ → Type 0
AreOpen q marks k [] = ⊤
AreOpen q marks k (n ∷ ns) = IsNextOpen q k n marks × AreOpen q marks n ns

-- the entries are of the deliveries of the open messages to the process after the one with this number, in
-- order of sending
pub record AreNext (net : List Envelope) (q : ProcessId) (marks : List MarkedMessage) (after : ℕ)
    (xs : List JournalEntry) : Type 0 where
  pub numbers : List ℕ
  pub in_order : AreOpen q marks after numbers
  pub deliver : AreNumbered net q numbers xs

-- The process made the step of this marked entry by itself, which is a turn of one entry, under this caller's
-- number; a restart keeps N bytes after the forced front.
pub record MakesStep (caller : ℕ) (wanted : JournalEntry) (keep : ℕ) (s t : CoreState) (d e : ManagerData)
    (made : Made) : Type 0 where
  pub entry : JournalEntry
  pub entries_are : made.turn.entries ≡ (caller, entry) ∷ []
  pub step : entry.step ≡ wanted.step
  pub begun_is : made.begun ≡ entry.reaction.begun
  pub makes : MakesAlone s t d e keep entry.step.happening entry.reaction

-- The turn has more entries, or as many: those of messages to the process that it delivered by itself, from
-- the first state and data to the second, under this caller's number.
pub record GoesFurther (tree : List TreeProcess) (net : List Envelope) (q : ProcessId) (caller : ℕ)
    (old new : List (ℕ × JournalEntry)) (s t : CoreState) (d e : ManagerData) : Type 0 where
  pub more : List (ℕ × JournalEntry)
  pub new_are : new ≡ old ++ more
  pub goes : GoesAlone tree q s d (entries_in more) t e
  pub deliver : All (IsDeliveryAt net q) (entries_in more)
  pub by_caller : AreBy caller more

-- What a process made in a turn, under this caller's number: it stood in some run of the tree with its
-- entries, it made these by itself, and each of them may come after the messages that it noted.
pub record MadeTurn (tree : List TreeProcess) (net : List Envelope) (q : ProcessId) (caller : ℕ)
    (own : List JournalEntry)
    (zs : List (ℕ × JournalEntry)) (t : CoreState) : Type 0 where
  pub stood : CoreState
  pub held : ManagerData
  pub left : ManagerData
  pub run : OwnRun tree q own stood
  pub goes : GoesAlone tree q stood held (entries_in zs) t left
  pub given : AllGiven tree net q (entries_in zs)
  pub by_caller : AreBy caller zs
