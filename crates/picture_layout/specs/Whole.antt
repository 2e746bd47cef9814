-- What a run has that is drawn: its records and its deliveries.
use Rattle.std.specs.Prelude.{ℕ, nat_eq, nat_le, Bool, not, ◌&&◌, if◌then◌else◌, Option, None, Some, option_to_list, List}
use Rattle.std.specs.List.{flat_map}
use Rattle.protocol.specs.declared.messages.Envelope.{Envelope}
use Rattle.protocol.specs.declared.records.ShownRecord.{ShownRecord}
use Rattle.protocol.specs.declared.events.JournalEntry.{JournalEntry}
use Rattle.protocol.specs.declared.events.Happening.{Happening}
use Rattle.protocol_words.specs.Variants.{Handles, MessageInput}

-- every record that was written in these steps, in order
unfoldable pub records_in : List JournalEntry → List ShownRecord
records_in es = flat_map (λ e. e.reaction.written) es

-- every message that was sent in these steps, in the order of their numbers
unfoldable pub sent_in : List JournalEntry → List Envelope
sent_in es = flat_map (λ e. e.reaction.messages) es

-- the message that was delivered, if one was
abbrev pub heard_in : Happening → Option ℕ
heard_in (Handles (MessageInput n m)) = Some n
heard_in h = None

-- one of N messages has this number, from 1
abbrev pub is_known : ℕ → ℕ → Bool
is_known count n = not (nat_eq n 0) && nat_le n count

-- the number, where one of N messages has it
abbrev pub known : ℕ → Option ℕ → Option ℕ
known count None = None
known count (Some n) = if is_known count n then Some n else None

-- the message, of N, that a step delivered, if it delivered one
abbrev pub delivery : ℕ → JournalEntry → Option ℕ
delivery count e = known count (heard_in e.step.happening)

-- every delivery of these steps, in order, by the number of its message, of N
unfoldable pub deliveries : ℕ → List JournalEntry → List ℕ
deliveries count es = flat_map (λ e. option_to_list (delivery count e)) es
