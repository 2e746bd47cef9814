-- The journal of a cluster, as the definitions see it.
use Rattle.std.specs.Prelude.{◌≡◌, ◌<◌, ℕ, suc, Some, List, [], ◌∷◌, length, map, slice_get}
use Rattle.protocol.specs.declared.events.JournalEntry.{JournalEntry}
use Rattle.protocol.specs.declared.events.Happening.{Happening}
use Rattle.protocol_words.specs.Variants.{Handles, MessageInput}
use Rattle.cluster_journal.specs.declared.marks.MarkedMessage.{MarkedMessage}
use Rattle.cluster_journal.specs.declared.marks.Delivery.TheVariants.{Delivered}
use Rattle.protocol.specs.declared.messages.Message.{Message}
use Rattle.protocol.specs.declared.names.ProcessId.{ProcessId}
use Rattle.tree_state.specs.Cuts.{net_of}
use Rattle.cluster_journal.specs.Marks.{marked}

-- Every entry with its caller's number, the oldest first; how many of the last turns are not placed yet; and
-- what became of each message of those that are.
pub record ClusterState : Type 0 where
  pub entries : List (ℕ × JournalEntry)
  pub late : ℕ
  pub marks : List MarkedMessage

-- the entries, without their callers
abbrev pub entries_of : List (ℕ × JournalEntry) → List JournalEntry
entries_of xs = map (λ x. x.1) xs

-- the marks once this has happened: a message that it delivers is delivered
abbrev pub marked_by : Happening → List MarkedMessage → List MarkedMessage
marked_by (Handles (MessageInput k m)) ms = marked ms k Delivered
marked_by _ ms = ms

-- the marks once the steps of these entries have happened, one after another
abbrev pub marked_by_all : List (ℕ × JournalEntry) → List MarkedMessage → List MarkedMessage
marked_by_all [] ms = ms
marked_by_all (x ∷ xs) ms = marked_by_all xs (marked_by x.1.step.happening ms)

-- one of these entries delivers the message with this number
pub record IsDelivered (xs : List (ℕ × JournalEntry)) (number : ℕ) : Type 0 where
  pub place : ℕ
  pub caller : ℕ
  pub entry : JournalEntry
  pub message : Message
  pub stands : slice_get xs place ≡ Some (caller, entry)
  pub happens : entry.step.happening ≡ Handles (MessageInput number message)

-- of each message that is marked as delivered that is so
abbrev pub AreDelivered : List MarkedMessage → List (ℕ × JournalEntry) → Type 0
AreDelivered ms xs = (k : ℕ) (to : ProcessId) → slice_get ms k ≡ Some (record { to = to; mark = Delivered })
    → IsDelivered xs (suc k)

-- what is marked as delivered in the new marks is so wherever it was so of the old ones
abbrev pub KeepsDelivered : List MarkedMessage → List MarkedMessage → Type 0
KeepsDelivered old new = (xs : List (ℕ × JournalEntry)) → AreDelivered old xs → AreDelivered new xs

-- it is so of each message that these entries send
abbrev pub AllDelivered : List (ℕ × JournalEntry) → Type 0
AllDelivered xs = (k : ℕ) → k < length (net_of (entries_of xs)) → IsDelivered xs (suc k)
