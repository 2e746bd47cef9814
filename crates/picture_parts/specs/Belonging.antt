-- Which steps of a run are of a transaction.
use Rattle.std.specs.Prelude.{◌≡◌, ⊤, Bool, true, false, not, ◌==◌, ◌&&◌, ◌||◌, leb, ltb, Option, Some, None, List, [], ◌∷◌, ◌++◌, count_by, fold, length}
use Rattle.protocol.specs.declared.events.Act.{Act}
use Rattle.protocol_words.specs.act
use Rattle.protocol.specs.declared.events.JournalEntry.{JournalEntry}
use Rattle.protocol.specs.declared.events.Happening.{Happening}
use Rattle.protocol_words.specs.happening
use Rattle.protocol_words.specs.input
use Rattle.protocol.specs.declared.messages.Envelope.{Envelope}
use Rattle.protocol.specs.declared.messages.Message.{Message}
use Rattle.protocol_words.specs.message
use Rattle.protocol.specs.declared.names.Case.{Case}
use Rattle.protocol.specs.declared.names.ProcessId.{ProcessId}
use Rattle.protocol.specs.declared.names.Txn.{Txn}
use Rattle.protocol.specs.declared.records.ShownRecord.{ShownRecord}
use Rattle.protocol.specs.declared.records.Subject.{Subject}
use Rattle.protocol_words.specs.subject
use Rattle.protocol.specs.Names.{same_process, same_txn}
use Rattle.picture_parts.specs.declared.belonging.Choice.{Choice}
use Rattle.picture_parts.specs.declared.belonging.Choice.TheVariants.{Between, OfTxn}
use Rattle.picture_parts.specs.declared.belonging.Belonging.{Belonging}

-- the case that a message names
abbrev pub message_case : Message → Case
message_case (message.Join c) = c
message_case (message.Joined c t) = c
message_case (message.Work c n op) = c
message_case (message.Prepare c n) = c
message_case (message.Yes c) = c
message_case (message.No c) = c
message_case (message.Read c) = c
message_case (message.Commit c) = c
message_case (message.Abort c) = c
message_case (message.Ack c o fs) = c
message_case (message.Inquire c) = c

-- a transaction, if there is one, is this one
abbrev pub is_txn : Txn → Option Txn → Bool
is_txn t None = false
is_txn t (Some x) = same_txn x t

-- an act, which began this transaction, if it began one, is of the first one
abbrev pub act_is_of : Txn → Option Txn → Act → Bool
act_is_of t begun (act.Begin p) = is_txn t begun
act_is_of t begun (act.Join c p) = same_txn c.txn t
act_is_of t begun (act.Work c p op) = same_txn c.txn t
act_is_of t begun (act.Commit x) = same_txn x t
act_is_of t begun (act.Abort x) = same_txn x t
act_is_of t begun (act.Ask c) = same_txn c.txn t
act_is_of t begun (act.Decide c o) = same_txn c.txn t
act_is_of t begun (act.Forget c) = same_txn c.txn t

-- what a step handles names the transaction
abbrev pub names : Txn → Option Txn → Happening → Bool
names t begun (happening.Input (input.Act a)) = act_is_of t begun a
names t begun (happening.Input (input.Message n m)) = same_txn (message_case m).txn t
names t begun (happening.Restart k) = false
names t begun happening.Trim = false

-- a record is of a case of the transaction
abbrev pub subject_is_of : Txn → Subject → Bool
subject_is_of t (subject.Boot n) = false
subject_is_of t (subject.Case c) = same_txn c.txn t
subject_is_of t subject.Other = false

abbrev pub record_is_of : Txn → ShownRecord → Bool
record_is_of t l = subject_is_of t l.subject

-- a message names a case of the transaction
abbrev pub message_is_of : Txn → Envelope → Bool
message_is_of t e = same_txn (message_case e.message).txn t

-- a step is of the transaction: it handles an act or a message of it, or makes a record or a message of it
unfoldable pub is_of : Txn → JournalEntry → Bool
is_of t e =
    names t e.reaction.begun e.step.happening
    || not (count_by (record_is_of t) e.reaction.written == 0)
    || not (count_by (message_is_of t) e.reaction.messages == 0)

-- a step is a restart
abbrev pub is_restart : Happening → Bool
is_restart (happening.Restart k) = true
is_restart h = false

-- a step of this process is of the transaction
unfoldable pub is_of_at : Txn → ProcessId → JournalEntry → Bool
is_of_at t p e = same_process e.step.process p && is_of t e

-- a process took part in the transaction in these steps
abbrev pub took_part : Txn → ProcessId → List Belonging → Bool
took_part t p before = not (count_by (λ m. is_of_at t p m.entry) before == 0)

-- The steps that are drawn: those of a transaction, with the restarts of the processes that took part in it
-- before; or those from one on, up to the one before another.
unfoldable pub is_shown : Choice → List Belonging → JournalEntry → Bool
is_shown (OfTxn t) before e = is_of t e || (is_restart e.step.happening && took_part t e.step.process before)
is_shown (Between from to) before e = leb from (length before) && ltb (length before) to

-- What is kept while the steps are gone over: the processes that took part so far, so that no restart looks
-- back.

-- a process is one of these
abbrev pub is_among : ProcessId → List ProcessId → Bool
is_among p ps = not (count_by (λ q. same_process q p) ps == 0)

-- a process is one of the second ones if it is one of the first or this one
abbrev pub AddsPart : ProcessId → List ProcessId → List ProcessId → Type 0
AddsPart q old new = (p : ProcessId) → is_among p new ≡ (is_among p old || same_process q p)

-- a process is one of the second ones if it is one of the first or takes part in this step
abbrev pub AddsParts : Choice → JournalEntry → List ProcessId → List ProcessId → Type 0
AddsParts (OfTxn t) e old new = (p : ProcessId) → is_among p new ≡ (is_among p old || is_of_at t p e)
AddsParts (Between from to) e old new = ⊤

-- these processes are those that took part in the transaction in these steps, if the steps of one are drawn
abbrev pub TookPart : Choice → List Belonging → List ProcessId → Type 0
TookPart (OfTxn t) before ps = (p : ProcessId) → is_among p ps ≡ took_part t p before
TookPart (Between from to) before ps = ⊤

-- a step after others, marked
abbrev pub with_mark : Choice → List Belonging → JournalEntry → List Belonging
with_mark choice before e = before ++ record { entry = e; shown = is_shown choice before e } ∷ []

-- the steps of a run, each with whether it is drawn
unfoldable pub marks_of : Choice → List JournalEntry → List Belonging
marks_of choice es = fold (with_mark choice) [] es
