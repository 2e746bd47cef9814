-- The steps of a part of a run, as they are drawn.
use Rattle.std.specs.Prelude.{ℕ, ◌+◌, ◌-◌, Bool, true, false, ◌==◌, ◌&&◌, if◌then◌else◌, Option, Some, None, List, [], ◌∷◌, ◌++◌, count_by, drop, filter, flat_map, fold, map, slice_get, unwrap_or}
use Rattle.protocol.specs.declared.events.JournalEntry.{JournalEntry}
use Rattle.protocol.specs.declared.events.Happening.{Happening}
use Rattle.protocol.specs.declared.events.Happening.TheVariants as happening
use Rattle.protocol_words.specs.input
use Rattle.protocol.specs.declared.events.Reaction.{Reaction}
use Rattle.protocol.specs.declared.messages.Envelope.{Envelope}
use Rattle.protocol.specs.declared.names.ProcessId.{ProcessId}
use Rattle.protocol.specs.declared.names.Txn.{Txn}
use Rattle.protocol.specs.declared.records.ShownRecord.{ShownRecord}
use Rattle.protocol.specs.declared.records.Subject.{Subject}
use Rattle.protocol_words.specs.subject
use Rattle.protocol.specs.Names.{same_process, same_txn}
use Rattle.picture_parts.specs.Belonging.{message_is_of}
use Rattle.picture_parts.specs.declared.belonging.Belonging.{Belonging}

-- What is drawn of a step: all of it, or what is of one transaction.

-- a record is of no other transaction
abbrev pub subject_stays : Txn → Subject → Bool
subject_stays t (subject.Boot n) = true
subject_stays t (subject.Case c) = same_txn c.txn t
subject_stays t subject.Other = true

abbrev pub record_stays : Option Txn → ShownRecord → Bool
record_stays None l = true
record_stays (Some t) l = subject_stays t l.subject

-- a message is of no other transaction
abbrev pub message_stays : Option Txn → Envelope → Bool
message_stays None e = true
message_stays (Some t) e = message_is_of t e

-- what is drawn of a reaction
abbrev pub cut : Option Txn → Reaction → Reaction
cut only r = record {
  begun = r.begun;
  written = filter (record_stays only) r.written;
  told = r.told;
  messages = filter (message_stays only) r.messages;
  kept = r.kept;
}

-- The messages that are drawn are numbered from 1, in the order in which they are sent.

-- of each message of a step, whether it is drawn
unfoldable pub drawn_messages : Option Txn → Belonging → List Bool
drawn_messages only m = map (λ e. m.shown && message_stays only e) m.entry.reaction.messages

-- of each message of a run, in the order of their numbers
unfoldable pub drawn_sent : Option Txn → List Belonging → List Bool
drawn_sent only ms = flat_map (drawn_messages only) ms

-- how many messages are drawn, and the numbers of all in the picture
pub record Numbered : Type 0 where
  pub drawn : ℕ
  pub numbers : List ℕ

-- with one more message, which is drawn or not
abbrev pub with_message : Numbered → Bool → Numbered
with_message s b = record {
  drawn = if b then s.drawn + 1 else s.drawn;
  numbers = s.numbers ++ (if b then s.drawn + 1 else 0) ∷ [];
}

abbrev pub numbered_by : List Bool → Numbered
numbered_by sent = fold with_message (record { drawn = 0; numbers = [] }) sent

-- of each message its number in the picture; 0, if it is not drawn
unfoldable pub numbers_of : List Bool → List ℕ
numbers_of sent = (numbered_by sent).numbers

-- that of the message with this number in the run; 0, if there is none
abbrev pub number_in : List ℕ → ℕ → ℕ
number_in numbers n = if n == 0 then 0 else unwrap_or (slice_get numbers (n - 1)) 0

-- A crash takes of the records that are drawn those that it takes in the run.

-- Of the records of a process that a crash may take: of each, whether it is drawn; and how many of those that
-- are drawn a crash could take, if the process had no others.
pub record TailState : Type 0 where
  pub own : ℕ
  pub all : List Bool

-- with one more record, which is forced or not, and drawn or not: a forced one leaves none that a crash may
-- take
abbrev pub with_record : Bool → Bool → TailState → TailState
with_record true true t = record { own = 0; all = [] }
with_record true false t = record { own = t.own; all = [] }
with_record false true t = record { own = t.own + 1; all = t.all ++ true ∷ [] }
with_record false false t = record { own = t.own; all = t.all ++ false ∷ [] }

-- with the records of a step that is drawn or not
abbrev pub with_records : Option Txn → Bool → TailState → List ShownRecord → TailState
with_records only shown t ls = fold (λ t l. with_record l.forced (shown && record_stays only l) t) t ls

-- a restart and a trim leave none, either
abbrev pub begun_by : Bool → Happening → TailState → TailState
begun_by shown (happening.Input i) t = t
begun_by shown (happening.Restart k) t = with_record true shown t
begun_by shown happening.Trim t = with_record true shown t

-- with a step of a process
abbrev pub with_step : Option Txn → TailState → Belonging → TailState
with_step only t m = with_records only m.shown (begun_by m.shown m.entry.step.happening t)
    m.entry.reaction.written

-- with one more step, if it is of this process
unfoldable pub with_step_at : Option Txn → ProcessId → TailState → Belonging → TailState
with_step_at only p t m = if same_process m.entry.step.process p then with_step only t m else t

-- there are none
abbrev pub no_tail : TailState
no_tail = record { own = 0; all = [] }

-- those of a process after these steps
unfoldable pub tail_at : Option Txn → ProcessId → List Belonging → TailState
tail_at only p ms = fold (with_step_at only p) no_tail ms

-- how many of those that are drawn a crash leaves that leaves N of all
abbrev pub own_left : TailState → ℕ → ℕ
own_left t kept = t.own - count_by (λ b. b) (drop kept t.all)

-- A step as it is drawn, if messages have these numbers, and a crash of its process may take these records.
abbrev pub drawn_happening : List ℕ → TailState → Happening → Happening
drawn_happening numbers tail (happening.Input (input.Act a)) = happening.Input (input.Act a)
drawn_happening numbers tail (happening.Input (input.Message n m)) =
    happening.Input (input.Message (number_in numbers n) m)
drawn_happening numbers tail (happening.Restart k) = happening.Restart (own_left tail k)
drawn_happening numbers tail happening.Trim = happening.Trim

unfoldable pub drawn_entry : Option Txn → List ℕ → TailState → JournalEntry → JournalEntry
drawn_entry only numbers tail e = record {
  step = record {
    process = e.step.process;
    happening = drawn_happening numbers tail e.step.happening;
    fault = e.step.fault;
  };
  reaction = cut only e.reaction;
}

-- a step as it is drawn after these
abbrev pub drawn_after : Option Txn → List ℕ → List Belonging → JournalEntry → JournalEntry
drawn_after only numbers before e = drawn_entry only numbers (tail_at only e.step.process before) e

-- steps that were gone over, and those of them that are drawn, as they are drawn
pub record Drawn : Type 0 where
  pub before : List Belonging
  pub entries : List JournalEntry

abbrev pub with_drawn : Option Txn → List ℕ → Drawn → Belonging → Drawn
with_drawn only numbers d m = record {
  before = d.before ++ m ∷ [];
  entries = if m.shown then d.entries ++ drawn_after only numbers d.before m.entry ∷ [] else d.entries;
}

abbrev pub drawn_by : Option Txn → List ℕ → List Belonging → Drawn
drawn_by only numbers ms = fold (with_drawn only numbers) (record { before = []; entries = [] }) ms

-- The steps that are drawn of a run, in order: what is of one transaction, if only that is drawn, or all;
-- their messages with their numbers in the picture, and their crashes with the records that they leave of
-- those that are drawn.
unfoldable pub drawn_from : Option Txn → List Belonging → List JournalEntry
drawn_from only ms = (drawn_by only (numbers_of (drawn_sent only ms)) ms).entries
