-- The words of messages and records.
use Rattle.std.specs.Prelude.{ℕ, ◌-◌, nat_lt, if◌then◌else◌, Option, None, Some, List, [], ◌++◌, codes, length, take}
use Rattle.std.specs.Fmt.{decimal}
use Rattle.protocol.specs.declared.names.Txn.{Txn}
use Rattle.protocol.specs.declared.messages.Envelope.{Envelope}
use Rattle.protocol.specs.declared.messages.Message.{Message}
use Rattle.protocol.specs.declared.messages.Message.TheVariants.{Join, Joined, Work, Prepare, Yes, No, Read, Commit, Abort, Ack, Inquire}
use Rattle.protocol.specs.declared.records.ShownRecord.{ShownRecord}
use Rattle.protocol.specs.declared.records.Subject.{Subject}
use Rattle.protocol.specs.declared.records.Subject.TheVariants.{Boot, Other}
use Rattle.protocol_words.specs.Variants.{OfCase}
use Rattle.protocol.specs.Plays.{sent_as}
use Rattle.protocol.specs.Texts.{case_text, envelope_text, findings_text, kind_word, op_text, outcome_word}

-- a transaction's name, which is that of the root's case
abbrev pub txn_name : Txn → List ℕ
txn_name x = case_text (record { txn = x; ticket = None })

-- what a record is of, after a space: a boot, or the transaction of a case
abbrev pub subject_name : Subject → List ℕ
subject_name (Boot n) = codes " " ++ decimal n
subject_name (OfCase c) = codes " " ++ txn_name c.txn
subject_name Other = []

-- the name of a record
unfoldable pub record_name : ShownRecord → List ℕ
record_name l = kind_word l.kind ++ subject_name l.subject

-- all of a message with this number, if there is one
abbrev pub title_of : ℕ → Option Envelope → List ℕ
title_of n None = []
title_of n (Some e) = envelope_text n e

-- all of the message with this number, of these
abbrev pub title_in : List Envelope → ℕ → List ℕ
title_in messages n = title_of n (sent_as messages n)

-- words with so much room: if they are longer, two dots stand for the rest
abbrev pub in_room : ℕ → List ℕ → List ℕ
in_room room ws = if nat_lt room (length ws) then take (room - 2) ws ++ codes ".." else ws

-- the words of a message: what it is, its transaction, and what it asks or tells
abbrev pub message_name : Message → List ℕ
message_name (Join c) = codes "JOIN " ++ txn_name c.txn
message_name (Joined c t) = codes "JOINED " ++ txn_name c.txn
message_name (Work c i op) = codes "WORK " ++ txn_name c.txn ++ codes " " ++ op_text op
message_name (Prepare c n) = codes "PREPARE " ++ txn_name c.txn
message_name (Yes c) = codes "YES " ++ txn_name c.txn
message_name (No c) = codes "NO " ++ txn_name c.txn
message_name (Read c) = codes "READ " ++ txn_name c.txn
message_name (Commit c) = codes "COMMIT " ++ txn_name c.txn
message_name (Abort c) = codes "ABORT " ++ txn_name c.txn
message_name (Ack c o fs) = codes "ACK " ++ txn_name c.txn ++ codes " " ++ outcome_word o ++ findings_text fs
message_name (Inquire c) = codes "INQUIRE " ++ txn_name c.txn

-- what stands along an arrow before its message: the number, and a space
abbrev pub number_text : ℕ → List ℕ
number_text n = decimal n ++ codes " "

-- what stands along the arrow of a message after its number, with so much room for both
abbrev pub label_of : ℕ → ℕ → Option Envelope → List ℕ
label_of room n None = []
label_of room n (Some e) = in_room (room - length (number_text n)) (message_name e.message)

-- that of the message with this number, of these
abbrev pub label_in : ℕ → List Envelope → ℕ → List ℕ
label_in room messages n = label_of room n (sent_as messages n)
