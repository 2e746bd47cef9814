-- The payload that a record is written as, and its kind's byte.
use Rattle.std.specs.Prelude.{◌<◌, ⊤, ℕ, List, [], ◌∷◌, ◌++◌, Option, Some, None, length}
use Rattle.std.specs.List.{flat_map, All}
use Rattle.byteorder.specs.Endian.{big_bytes}
use Rattle.xa_xid.specs.Bytes.{xid_bytes}
use Rattle.protocol.specs.declared.names.ProcessId.{ProcessId}
use Rattle.protocol.specs.declared.names.Outcome.{Outcome}
use Rattle.protocol_words.specs.Variants.{AbortedOutcome, CaseBranch, CommittedOutcome}
use Rattle.protocol.specs.declared.names.Ticket.{Ticket}
use Rattle.protocol.specs.declared.records.BranchName.{BranchName}
use Rattle.protocol.specs.declared.records.LogRecord.{LogRecord}
use Rattle.protocol.specs.declared.records.Record.{Record}
use Rattle.protocol.specs.declared.records.Record.TheVariants.{Opened, Collecting, Prepare, Commit, Abort, End, Prepared, Committed, RolledBack, Direct, HeurCommit, HeurRollback, Told, Forgot, Base, Pair, Cleared}
use Rattle.protocol.specs.declared.records.Write.{Write}
use Rattle.protocol.specs.LogNames.{name_xid}
use Rattle.log_text.specs.declared.form.LogForm.{LogForm}
use Rattle.log_text.specs.declared.form.LogFormat.{LogFormat}
use Rattle.log_text.specs.declared.form.LogFormat.TheVariants.{First, Second}
use Rattle.log_text.specs.Forms.{kind_number, size_limit, unowned}
use Rattle.log_text.specs.Frames.{frame_text}
use Rattle.protocol.specs.declared.records.Reports.{Reports}

-- the byte of a record's kind
abbrev pub kind_byte : Record → ℕ
kind_byte (Opened n) = 1
kind_byte (Collecting c ts) = 2
kind_byte (Prepare c ts) = 3
kind_byte (Commit c ts) = 4
kind_byte (Abort c ts) = 5
kind_byte (End c None) = 6
kind_byte (End c (Some r)) = 7
kind_byte (Cleared c) = 8
kind_byte (Prepared b ws) = 17
kind_byte (Committed b) = 18
kind_byte (RolledBack b) = 19
kind_byte (Direct b ws) = 20
kind_byte (HeurCommit b) = 21
kind_byte (HeurRollback b) = 22
kind_byte (Told b o) = 23
kind_byte (Forgot b) = 24
kind_byte (Base n) = 25
kind_byte (Pair k v) = 26

-- a ticket: the child, its boot, the number
unfoldable pub ticket_text : Ticket → List ℕ
ticket_text t = big_bytes 4 t.child.0 ++ (big_bytes 8 t.boot ++ big_bytes 8 t.number)

-- tickets: how many, and each
abbrev pub tickets_text : List Ticket → List ℕ
tickets_text ts = length ts ∷ flat_map ticket_text ts

-- what the root found: the mixed tickets, and the unreported ones
abbrev pub reports_text : Reports → List ℕ
reports_text r = tickets_text r.mixed ++ tickets_text r.unreported

-- a key after its length
abbrev pub key_text : List ℕ → List ℕ
key_text k = length k ∷ k

-- a value after its length in two bytes
unfoldable pub value_text : List ℕ → List ℕ
value_text v = big_bytes 2 (length v) ++ v

-- what a write leaves at its key: 0 where nothing, else 1 and the value
abbrev pub left_text : Option (List ℕ) → List ℕ
left_text None = 0 ∷ []
left_text (Some v) = 1 ∷ value_text v

-- a write: its key, and what it leaves there
unfoldable pub write_text : Write → List ℕ
write_text w = key_text w.key ++ left_text w.value

-- writes: how many, and each
abbrev pub writes_text : List Write → List ℕ
writes_text ws = length ws ∷ flat_map write_text ws

-- the byte of an outcome
abbrev pub outcome_byte : Outcome → ℕ
outcome_byte CommittedOutcome = 1
outcome_byte AbortedOutcome = 0

-- a name: the XID of the branch
abbrev pub name_text : Option ProcessId → BranchName → List ℕ
name_text p b = xid_bytes (name_xid p b)

-- whose log it is: the process, and its sort
abbrev pub owner_text : LogForm → List ℕ
owner_text f = big_bytes 4 f.process.0 ++ kind_number f.kind ∷ []

-- what Opened carries: its boot, and by the second format whose log it is
abbrev pub opened_by : LogFormat → LogForm → ℕ → List ℕ
opened_by First f n = big_bytes 8 n
opened_by Second f n = big_bytes 8 n ++ owner_text f

-- what Opened carries in a log of this form: its boot, and by the second format whose log it is
abbrev pub opened_text : LogForm → ℕ → List ℕ
opened_text f n = opened_by f.format f n

-- a record's payload: what it carries, after its name if it has one
abbrev pub payload_text : LogForm → Option ProcessId → Record → List ℕ
payload_text f p (Opened n) = opened_text f n
payload_text f p (Collecting c ts) = name_text p (CaseBranch c) ++ tickets_text ts
payload_text f p (Prepare c ts) = name_text p (CaseBranch c) ++ tickets_text ts
payload_text f p (Commit c ts) = name_text p (CaseBranch c) ++ tickets_text ts
payload_text f p (Abort c ts) = name_text p (CaseBranch c) ++ tickets_text ts
payload_text f p (End c None) = name_text p (CaseBranch c)
payload_text f p (End c (Some r)) = name_text p (CaseBranch c) ++ reports_text r
payload_text f p (Cleared c) = name_text p (CaseBranch c)
payload_text f p (Prepared b ws) = name_text p b ++ writes_text ws
payload_text f p (Committed b) = name_text p b
payload_text f p (RolledBack b) = name_text p b
payload_text f p (Direct b ws) = name_text p b ++ writes_text ws
payload_text f p (HeurCommit b) = name_text p b
payload_text f p (HeurRollback b) = name_text p b
payload_text f p (Told b o) = name_text p b ++ outcome_byte o ∷ []
payload_text f p (Forgot b) = name_text p b
payload_text f p (Base n) = big_bytes 8 n
payload_text f p (Pair k v) = key_text k ++ value_text v

-- the boot of an Opened
abbrev pub boot_in : Record → Option ℕ
boot_in (Opened n) = Some n
boot_in _ = None

-- a record as it is in a log
unfoldable pub record_text : LogForm → LogRecord → List ℕ
record_text f l = frame_text f.format (kind_byte l.entry) (payload_text f l.parent l.entry)

-- records, one after the other
unfoldable pub records_text : LogForm → List LogRecord → List ℕ
records_text f ls = flat_map (record_text f) ls

-- Sizes that the bytes before a list, a key and a value can tell.

-- the length of a value, if there is one, fits two bytes
abbrev pub SizedValue : Option (List ℕ) → Type 0
SizedValue None = ⊤
SizedValue (Some v) = length v < 65536

-- the length of a key fits one byte, and that of its value two
abbrev pub SizedWrite : Write → Type 0
SizedWrite w = (length w.key < 256) × SizedValue w.value

-- each number and length that a payload tells in one byte or two fits there
abbrev pub IsSized : Record → Type 0
IsSized (Collecting c ts) = length ts < 256
IsSized (Prepare c ts) = length ts < 256
IsSized (Commit c ts) = length ts < 256
IsSized (Abort c ts) = length ts < 256
IsSized (End c (Some r)) = (length r.mixed < 256) × (length r.unreported < 256)
IsSized (Prepared b ws) = (length ws < 256) × All SizedWrite ws
IsSized (Direct b ws) = (length ws < 256) × All SizedWrite ws
IsSized (Pair k v) = (length k < 256) × (length v < 65536)
IsSized _ = ⊤

-- a record fits a frame of a log of this form
pub record FitsFrameIn (f : LogForm) (l : LogRecord) : Type 0 where
  pub sized : IsSized l.entry
  pub short : length (payload_text f l.parent l.entry) < size_limit f.format

-- a record fits a frame of the log of a process
abbrev pub FitsFrame : LogRecord → Type 0
FitsFrame l = FitsFrameIn unowned l

-- how many bytes a record takes in the log of a process, whosever it is
abbrev pub record_size : LogRecord → ℕ
record_size l = length (record_text unowned l)
