-- What the records of a log say of each name, in a table.
use Rattle.std.specs.Prelude.{ℕ, suc, ◌&&◌, nat_le, Bool, true, false, if◌then◌else◌, unwrap_or, List, [], ◌∷◌, Option, Some, None}
use Rattle.std.specs.Map.{lookup}
use Rattle.indexmap.specs.IndexMap.{insert_entry}
use Rattle.xa_xid.specs.declared.xid.Xid.{Xid}
use Rattle.xa_xid.specs.contracts.xid.XidPartialEq.TheImpl as names
use Rattle.protocol.specs.declared.names.Ticket.{Ticket}
use Rattle.protocol.specs.declared.records.LogRecord.{LogRecord}
use Rattle.protocol.specs.declared.records.Record.{Record}
use Rattle.protocol.specs.declared.records.Record.TheVariants.{Collecting, Prepare, Commit, Abort, End, Prepared, Committed, RolledBack, Direct, HeurCommit, HeurRollback, Told, Forgot, Cleared}
use Rattle.protocol.specs.Records.{none_of}
pub use Rattle.log_text.specs.Marks.{log_name}
use Rattle.log_rules.specs.declared.trim.lives.Life.{Life}
use Rattle.log_rules.specs.declared.trim.lives.Said.{Said}
use Rattle.log_rules.specs.declared.trim.lives.Said.TheVariants.{Nothing, Waits, Settled, Owes, Over, Reported}

-- two names of a log are one: they have one XID
abbrev pub same : Xid → Xid → Bool
same = names.ghosts.eq

-- What the records of a name say of it.

-- after Collecting or Prepare the case waits, unless it was decided
abbrev pub begins : Said → Said
begins Nothing = Waits
begins s = s

-- after a decision the case is over where it ended, and what was found of it stays reported; else somebody
-- owes an acknowledgement where a decision names somebody
abbrev pub decides : Said → List Ticket → Said
decides Over ts = Over
decides Owes ts = Owes
decides Reported ts = Reported
decides s ts = if none_of ts then Settled else Owes

-- after Cleared nothing is reported any more
abbrev pub clears : Said → Said
clears Reported = Over
clears s = s

-- what is said after one more record of the name
abbrev pub said_after : Said → Record → Said
said_after s (Collecting c ts) = begins s
said_after s (Prepare c ts) = begins s
said_after s (Commit c ts) = decides s ts
said_after s (Abort c ts) = decides s ts
said_after s (End c None) = Over
said_after s (End c (Some r)) = Reported
said_after s (Cleared c) = clears s
said_after s (Prepared b ws) = Waits
said_after s (Committed b) = Over
said_after s (RolledBack b) = Over
said_after s (Direct b ws) = Over
said_after s (HeurCommit b) = Waits
said_after s (HeurRollback b) = Waits
said_after s (Told b o) = Waits
said_after s (Forgot b) = Over
said_after s _ = s

-- the records of the name stay: it waits, or somebody owes an acknowledgement, or what was found is reported
abbrev pub is_live : Said → Bool
is_live Waits = true
is_live Owes = true
is_live Reported = true
is_live _ = false

-- a manager's record of a promise
abbrev pub is_prepared : Record → Bool
is_prepared (Prepared b ws) = true
is_prepared _ = false

-- The table: for each name what its records say, and how many records are before the one that last prepared
-- it.

-- what the records have said of each name, under its XID
abbrev pub SaidTable : Type 0
SaidTable = List (Xid × Life)

-- what the table says of a name that no record has
abbrev pub no_life : Life
no_life = record { said = Nothing; since = 0 }

-- what the table says of a name
abbrev pub life_in : SaidTable → Xid → Life
life_in t x = unwrap_or (lookup (same x) t) no_life

-- what it says after one more record of the name, before which N stand
abbrev pub life_after : ℕ → Life → Record → Life
life_after i life r = record {
  said = said_after life.said r;
  since = if is_prepared r then i else life.since;
}

-- the table after one more record of this name, if it has one
abbrev pub noted_by : ℕ → SaidTable → Record → Option Xid → SaidTable
noted_by i t r None = t
noted_by i t r (Some x) = insert_entry same t x (life_after i (life_in t x) r)

-- the table after one more record, before which N stand
abbrev pub noted : ℕ → SaidTable → LogRecord → SaidTable
noted i t l = noted_by i t l.entry (log_name l)

-- the table after these records, before which N stand
unfoldable pub lives_from : ℕ → SaidTable → List LogRecord → SaidTable
lives_from i t [] = t
lives_from i t (l ∷ ls) = lives_from (suc i) (noted i t l) ls

-- what these records say of each name
abbrev pub lives_of : List LogRecord → SaidTable
lives_of ls = lives_from 0 [] ls

-- a record of this name stays before which N stand, where it has a name: it is live, and was not
-- prepared again after it
abbrev pub keeps_by : SaidTable → ℕ → Option Xid → Bool
keeps_by t i None = false
keeps_by t i (Some x) = is_live (life_in t x).said && nat_le (life_in t x).since i

-- a record stays before which N stand: its name is live, and was not prepared again after it
abbrev pub keeps : SaidTable → ℕ → LogRecord → Bool
keeps t i l = keeps_by t i (log_name l)

-- the records that stay, of some before which N stand
unfoldable pub picked : SaidTable → ℕ → List LogRecord → List LogRecord
picked t i [] = []
picked t i (l ∷ ls) = if keeps t i l then l ∷ picked t (suc i) ls else picked t (suc i) ls
