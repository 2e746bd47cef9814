-- Which records can be in a log of each sort of process.
use Rattle.std.specs.Prelude.{◌≡◌, ◌<◌, ◌≤◌, ◌^◌, ⊤, ℕ, List, Option, Some, None, length}
use Rattle.std.specs.List.{AllByRecursion}
use Rattle.xa_xid.specs.Xids.{IsXid, XidParts}
use Rattle.protocol.specs.declared.names.Kind.{Kind}
use Rattle.protocol.specs.declared.names.Kind.TheVariants.{Coordinator, Manager}
use Rattle.protocol.specs.declared.names.ProcessId.{ProcessId}
use Rattle.protocol.specs.declared.names.Ticket.{Ticket}
use Rattle.protocol.specs.declared.records.BranchName.{BranchName}
use Rattle.protocol.specs.declared.records.BranchName.TheVariants.{Foreign}
use Rattle.protocol_words.specs.Variants.{CaseBranch}
use Rattle.protocol.specs.declared.records.LogRecord.{LogRecord}
use Rattle.protocol.specs.declared.records.Record.{Record}
use Rattle.protocol.specs.declared.records.Record.TheVariants.{Opened, Collecting, Prepare, Commit, Abort, End, Prepared, Committed, RolledBack, Direct, HeurCommit, HeurRollback, Told, Forgot, Base, Pair, Cleared}
use Rattle.protocol.specs.declared.records.Reports.{Reports}
use Rattle.protocol.specs.declared.records.Write.{Write}
use Rattle.protocol.specs.Branches.{FitsBelow, FitsTxn}
use Rattle.protocol.specs.LogNames.{IsWholeName, below_of, name_xid}
use Rattle.log_text.specs.declared.form.LogForm.{LogForm}
use Rattle.log_text.specs.Parts.{name_in}
use Rattle.log_text.specs.Payloads.{FitsFrameIn, kind_byte, payload_text}
use Rattle.log_text.specs.Reading.{read_record}

-- numbers that a name's fields can be; a foreign name is an XID
abbrev pub FitsName : Option ProcessId → BranchName → Type 0
FitsName p (CaseBranch c) = FitsTxn c.txn × FitsBelow (below_of c.ticket p)
FitsName p (Foreign x) = IsXid x

-- a name is whole, and its numbers fit
pub record IsSoundName (p : Option ProcessId) (b : BranchName) : Type 0 where
  pub whole : IsWholeName p (Some b)
  pub fits : FitsName p b

-- numbers of boots and tickets are below 2^63
pub record IsSoundTicket (t : Ticket) : Type 0 where
  pub child : t.child.0 < 2 ^ 32
  pub boot : t.boot < 2 ^ 63
  pub number : t.number < 2 ^ 63

-- at most 255 tickets
pub record AreSoundTickets (ts : List Ticket) : Type 0 where
  pub count : length ts < 256
  pub each : AllByRecursion IsSoundTicket ts

-- what an End reports: at most 255 tickets of each sort
pub record AreSoundReports (r : Reports) : Type 0 where
  pub mixed : AreSoundTickets r.mixed
  pub unreported : AreSoundTickets r.unreported

-- a key has 1 to 64 bytes
pub record IsSoundKey (k : List ℕ) : Type 0 where
  pub some : 1 ≤ length k
  pub short : length k ≤ 64

-- a value that is left has at most 256 bytes
abbrev pub IsSoundLeft : Option (List ℕ) → Type 0
IsSoundLeft None = ⊤
IsSoundLeft (Some v) = length v ≤ 256

-- a write can be in a log: its key and its value have lengths within bounds
pub record IsSoundWrite (w : Write) : Type 0 where
  pub key : IsSoundKey w.key
  pub left : IsSoundLeft w.value

-- 1 to 64 writes
pub record AreSoundWrites (ws : List Write) : Type 0 where
  pub some : 1 ≤ length ws
  pub few : length ws ≤ 64
  pub each : AllByRecursion IsSoundWrite ws

-- a record without a name has a number below 2^63, or a key and its value
abbrev pub IsSoundUnnamed : Kind → Record → Type 0
IsSoundUnnamed p (Opened n) = n < 2 ^ 63
IsSoundUnnamed Manager (Base n) = n < 2 ^ 63
IsSoundUnnamed Manager (Pair k v) = IsSoundKey k × (length v ≤ 256)
IsSoundUnnamed _ _ = ⊥

-- a record can be in a log of this sort of process: its kind is of that sort, its name whole, and its
-- parts in range
abbrev pub IsSoundEntry : Kind → Option ProcessId → Record → Type 0
IsSoundEntry Coordinator p (Collecting c ts) = IsSoundName p (CaseBranch c) × AreSoundTickets ts
IsSoundEntry Coordinator p (Prepare c ts) = IsSoundName p (CaseBranch c) × AreSoundTickets ts
IsSoundEntry Coordinator p (Commit c ts) = IsSoundName p (CaseBranch c) × AreSoundTickets ts
IsSoundEntry Coordinator p (Abort c ts) = IsSoundName p (CaseBranch c) × AreSoundTickets ts
IsSoundEntry Coordinator p (End c None) = IsSoundName p (CaseBranch c)
IsSoundEntry Coordinator p (End c (Some r)) = IsSoundName p (CaseBranch c) × AreSoundReports r
IsSoundEntry Coordinator p (Cleared c) = IsSoundName p (CaseBranch c)
IsSoundEntry Manager p (Prepared b ws) = IsSoundName p b × AreSoundWrites ws
IsSoundEntry Manager p (Committed b) = IsSoundName p b
IsSoundEntry Manager p (RolledBack b) = IsSoundName p b
IsSoundEntry Manager p (Direct b ws) = IsSoundName p b × AreSoundWrites ws
IsSoundEntry Manager p (HeurCommit b) = IsSoundName p b
IsSoundEntry Manager p (HeurRollback b) = IsSoundName p b
IsSoundEntry Manager p (Told b o) = IsSoundName p b
IsSoundEntry Manager p (Forgot b) = IsSoundName p b
IsSoundEntry k p r = (p ≡ None) × IsSoundUnnamed k r

-- a record that can be in such a log
abbrev pub IsSound : Kind → LogRecord → Type 0
IsSound k l = IsSoundEntry k l.parent l.entry

-- the XID that a log writes for a whole name reads as this name
abbrev pub NamesReadBack : Type 0
NamesReadBack = (p : Option ProcessId) (b : BranchName) → IsSoundName p b → name_in (name_xid p b) ≡ (p, b)

-- the name that an XID is read as is whole
abbrev pub NamesAreSound : Type 0
NamesAreSound = (x : XidParts) → IsXid x → IsSoundName (name_in x).0 (name_in x).1

-- the name that an XID is read as has this XID
abbrev pub NamesAreWrittenBack : Type 0
NamesAreWrittenBack = (x : XidParts) → name_xid (name_in x).0 (name_in x).1 ≡ x

-- the payload of a sound record reads as this record, in a log of either format
abbrev pub RecordsReadBack : Type 0
RecordsReadBack = (f : LogForm) (l : LogRecord) → IsSound f.kind l
    → read_record f (kind_byte l.entry) (payload_text f l.parent l.entry) ≡ Some l

-- a sound record fits a frame of a log of either format
abbrev pub RecordsFitFrames : Type 0
RecordsFitFrames = (f : LogForm) (l : LogRecord) → IsSound f.kind l → FitsFrameIn f l
