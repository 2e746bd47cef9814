-- What a trim must know of a record: its mark.
use Rattle.std.specs.Prelude.{ℕ, ◌==◌, ◌||◌, Bool, true, false, if◌then◌else◌, option_map, List, [], ◌∷◌, Option, Some, None}
use Rattle.xa_xid.specs.declared.xid.Xid.{Xid}
use Rattle.protocol.specs.declared.names.Ticket.{Ticket}
use Rattle.protocol.specs.declared.records.LogRecord.{LogRecord}
use Rattle.protocol.specs.declared.records.Record.{Record}
use Rattle.protocol_words.specs.record_of
use Rattle.protocol.specs.LogNames.{name_xid, record_name}
use Rattle.protocol.specs.Records.{none_of}
use Rattle.log_text.specs.declared.mark.MarkDeed.{MarkDeed}
use Rattle.log_text.specs.declared.mark.MarkDeed.TheVariants as deed
use Rattle.log_text.specs.declared.mark.TrimMark.{TrimMark}

-- the name of a record, as the log writes it; Opened, Base and Pair have none
abbrev pub log_name : LogRecord → Option Xid
log_name l = option_map (name_xid l.parent) (record_name l.entry)

-- what a decision does that names these tickets
abbrev pub decision_by : List Ticket → MarkDeed
decision_by ts = if none_of ts then deed.Settles else deed.Owes

-- what a record does to what is said of its name
abbrev pub deed_of : Record → MarkDeed
deed_of (record_of.Opened n) = deed.Opens
deed_of (record_of.Base n) = deed.Nothing
deed_of (record_of.Pair k v) = deed.Nothing
deed_of (record_of.Collecting c ts) = deed.Begins
deed_of (record_of.Prepare c ts) = deed.Begins
deed_of (record_of.Commit c ts) = decision_by ts
deed_of (record_of.Abort c ts) = decision_by ts
deed_of (record_of.End c None) = deed.Ends
deed_of (record_of.End c (Some r)) = deed.Reports
deed_of (record_of.Cleared c) = deed.Clears
deed_of (record_of.Prepared b ws) = deed.Prepares
deed_of (record_of.Committed b) = deed.Ends
deed_of (record_of.RolledBack b) = deed.Ends
deed_of (record_of.Direct b ws) = deed.Ends
deed_of (record_of.HeurCommit b) = deed.Waits
deed_of (record_of.HeurRollback b) = deed.Waits
deed_of (record_of.Told b o) = deed.Waits
deed_of (record_of.Forgot b) = deed.Ends

-- what a trim must know of a record: its name, as the log writes it, and what it does
abbrev pub mark_of : LogRecord → TrimMark
mark_of l = record { name = log_name l; deed = deed_of l.entry }

-- the record is an Opened
abbrev pub opens : MarkDeed → Bool
opens deed.Opens = true
opens _ = false

-- The mark of a record, by the bytes of its frame.

-- what a record of this kind does that has no name; none, where a record of this kind has one
abbrev pub nameless : ℕ → Option MarkDeed
nameless kind =
    if kind == 1 then Some deed.Opens else if (kind == 25) || (kind == 26) then Some deed.Nothing else None

-- what a decision does after whose name these bytes stand: it settles where it names no tickets
abbrev pub decision_in : List ℕ → MarkDeed
decision_in [] = deed.Owes
decision_in (count ∷ rest) = if count == 0 then deed.Settles else deed.Owes

-- what a record of this kind does that has a name, by the bytes after it
abbrev pub deed_in : ℕ → List ℕ → MarkDeed
deed_in kind rest =
    if (kind == 2) || (kind == 3) then deed.Begins
    else if (kind == 4) || (kind == 5) then decision_in rest
    else if kind == 7 then deed.Reports
    else if kind == 8 then deed.Clears
    else if kind == 17 then deed.Prepares
    else if (kind == 21) || ((kind == 22) || (kind == 23)) then deed.Waits
    else deed.Ends
