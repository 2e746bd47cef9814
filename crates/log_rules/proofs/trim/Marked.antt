-- The marks of records say what the records say.
use Rattle.std.proofs.Common.{◌≡◌, ℕ, Bool, true, false, if◌then◌else◌, List, Option, Some, None, refl, ap, ◌∙◌}
use Rattle.indexmap.specs.IndexMap.{insert_entry}
use Rattle.xa_xid.specs.declared.xid.Xid.{Xid}
use Rattle.protocol.specs.declared.names.Ticket.{Ticket}
use Rattle.protocol.specs.declared.records.LogRecord.{LogRecord}
use Rattle.protocol.specs.declared.records.Record.{Record}
use Rattle.protocol_words.specs.record_of
use Rattle.protocol.specs.Records.{is_opened, none_of}
use Rattle.log_rules.specs.declared.trim.lives.Life.{Life}
use Rattle.log_rules.specs.declared.trim.lives.Said.{Said}
use Rattle.log_rules.specs.declared.trim.lives.Said.TheVariants as said
use Rattle.log_text.specs.declared.mark.MarkDeed.TheVariants as deed
use Rattle.log_rules.specs.trim.Tables.{SaidTable, decides, is_prepared, life_after, life_in, log_name, noted, noted_by, said_after, same}
use Rattle.log_text.specs.Marks.{decision_by, deed_of, mark_of, opens}
use Rattle.log_rules.specs.trim.Marks.{life_by, marked, marked_by, promises, said_by}

-- What a record does.

by_choice : (b : Bool) → said_by said.Nothing (if b then deed.Settles else deed.Owes)
    ≡ (if b then said.Settled else said.Owes)
by_choice true = refl
by_choice false = refl

kept_over : (b : Bool) → said_by said.Over (if b then deed.Settles else deed.Owes) ≡ said.Over
kept_over true = refl
kept_over false = refl

kept_owes : (b : Bool) → said_by said.Owes (if b then deed.Settles else deed.Owes) ≡ said.Owes
kept_owes true = refl
kept_owes false = refl

kept_reported : (b : Bool) → said_by said.Reported (if b then deed.Settles else deed.Owes) ≡ said.Reported
kept_reported true = refl
kept_reported false = refl

waits_choice : (b : Bool) → said_by said.Waits (if b then deed.Settles else deed.Owes)
    ≡ (if b then said.Settled else said.Owes)
waits_choice true = refl
waits_choice false = refl

settled_choice : (b : Bool) → said_by said.Settled (if b then deed.Settles else deed.Owes)
    ≡ (if b then said.Settled else said.Owes)
settled_choice true = refl
settled_choice false = refl

decided : (s : Said) (ts : List Ticket) → said_by s (decision_by ts) ≡ decides s ts
decided said.Over ts = kept_over (none_of ts)
decided said.Owes ts = kept_owes (none_of ts)
decided said.Reported ts = kept_reported (none_of ts)
decided said.Nothing ts = by_choice (none_of ts)
decided said.Waits ts = waits_choice (none_of ts)
decided said.Settled ts = settled_choice (none_of ts)

says : (s : Said) (r : Record) → said_by s (deed_of r) ≡ said_after s r
says s (record_of.Opened n) = refl
says s (record_of.Collecting c ts) = refl
says s (record_of.Prepare c ts) = refl
says s (record_of.Commit c ts) = decided s ts
says s (record_of.Abort c ts) = decided s ts
says s (record_of.End c None) = refl
says s (record_of.End c (Some r)) = refl
says s (record_of.Cleared c) = refl
says s (record_of.Prepared b ws) = refl
says s (record_of.Committed b) = refl
says s (record_of.RolledBack b) = refl
says s (record_of.Direct b ws) = refl
says s (record_of.HeurCommit b) = refl
says s (record_of.HeurRollback b) = refl
says s (record_of.Told b o) = refl
says s (record_of.Forgot b) = refl
says s (record_of.Base n) = refl
says s (record_of.Pair k v) = refl

no_promise : (ts : List Ticket) → promises (decision_by ts) ≡ false
no_promise ts = by_test (none_of ts)
  where
    by_test : (b : Bool) → promises (if b then deed.Settles else deed.Owes) ≡ false
    by_test true = refl
    by_test false = refl

no_opening : (ts : List Ticket) → opens (decision_by ts) ≡ false
no_opening ts = by_test (none_of ts)
  where
    by_test : (b : Bool) → opens (if b then deed.Settles else deed.Owes) ≡ false
    by_test true = refl
    by_test false = refl

promised : (r : Record) → promises (deed_of r) ≡ is_prepared r
promised (record_of.Opened n) = refl
promised (record_of.Collecting c ts) = refl
promised (record_of.Prepare c ts) = refl
promised (record_of.Commit c ts) = no_promise ts
promised (record_of.Abort c ts) = no_promise ts
promised (record_of.End c None) = refl
promised (record_of.End c (Some r)) = refl
promised (record_of.Cleared c) = refl
promised (record_of.Prepared b ws) = refl
promised (record_of.Committed b) = refl
promised (record_of.RolledBack b) = refl
promised (record_of.Direct b ws) = refl
promised (record_of.HeurCommit b) = refl
promised (record_of.HeurRollback b) = refl
promised (record_of.Told b o) = refl
promised (record_of.Forgot b) = refl
promised (record_of.Base n) = refl
promised (record_of.Pair k v) = refl

-- an Opened is known by its mark
pub opens_is : (r : Record) → opens (deed_of r) ≡ is_opened r
opens_is (record_of.Opened n) = refl
opens_is (record_of.Collecting c ts) = refl
opens_is (record_of.Prepare c ts) = refl
opens_is (record_of.Commit c ts) = no_opening ts
opens_is (record_of.Abort c ts) = no_opening ts
opens_is (record_of.End c None) = refl
opens_is (record_of.End c (Some r)) = refl
opens_is (record_of.Cleared c) = refl
opens_is (record_of.Prepared b ws) = refl
opens_is (record_of.Committed b) = refl
opens_is (record_of.RolledBack b) = refl
opens_is (record_of.Direct b ws) = refl
opens_is (record_of.HeurCommit b) = refl
opens_is (record_of.HeurRollback b) = refl
opens_is (record_of.Told b o) = refl
opens_is (record_of.Forgot b) = refl
opens_is (record_of.Base n) = refl
opens_is (record_of.Pair k v) = refl

-- The table.

life_is : (i : ℕ) (life : Life) (r : Record) → life_by i life (deed_of r) ≡ life_after i life r
life_is i life r =
    ap (λ (s : Said). record { said = s; since = if promises (deed_of r) then i else life.since })
    (says life.said r)
    ∙ ap (λ (b : Bool). record { said = said_after life.said r; since = if b then i else life.since })
    (promised r)

noted_is : (i : ℕ) (t : SaidTable) (r : Record) (o : Option Xid)
    → marked_by i t (deed_of r) o ≡ noted_by i t r o
noted_is i t r None = refl
noted_is i t r (Some x) = ap (λ (life : Life). insert_entry same t x life) (life_is i (life_in t x) r)

-- the mark of a record makes the table that the record makes
pub marked_is : (i : ℕ) (t : SaidTable) (l : LogRecord) → marked i t (mark_of l) ≡ noted i t l
marked_is i t l = noted_is i t l.entry (log_name l)
