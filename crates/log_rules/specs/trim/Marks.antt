-- The table that the marks of records make.
use Rattle.std.specs.Prelude.{ℕ, Bool, true, false, if◌then◌else◌, Option, Some, None}
use Rattle.indexmap.specs.IndexMap.{insert_entry}
use Rattle.xa_xid.specs.declared.xid.Xid.{Xid}
use Rattle.log_text.specs.declared.mark.MarkDeed.{MarkDeed}
use Rattle.log_text.specs.declared.mark.MarkDeed.TheVariants as deed
use Rattle.log_text.specs.declared.mark.TrimMark.{TrimMark}
use Rattle.log_rules.specs.declared.trim.lives.Life.{Life}
use Rattle.log_rules.specs.declared.trim.lives.Said.{Said}
use Rattle.log_rules.specs.declared.trim.lives.Said.TheVariants as said
use Rattle.log_rules.specs.trim.Tables.{SaidTable, begins, clears, life_in, same}

-- the record is a promise
abbrev pub promises : MarkDeed → Bool
promises deed.Prepares = true
promises _ = false

-- after a decision that says this: the case is over where it ended, what was found of it stays reported, and
-- who owes an acknowledgement owes it still
abbrev pub decided_by : Said → Said → Said
decided_by said.Over s = said.Over
decided_by said.Owes s = said.Owes
decided_by said.Reported s = said.Reported
decided_by _ s = s

-- what is said after one more record of the name
abbrev pub said_by : Said → MarkDeed → Said
said_by s deed.Begins = begins s
said_by s deed.Settles = decided_by s said.Settled
said_by s deed.Owes = decided_by s said.Owes
said_by s deed.Prepares = said.Waits
said_by s deed.Waits = said.Waits
said_by s deed.Reports = said.Reported
said_by s deed.Clears = clears s
said_by s deed.Ends = said.Over
said_by s deed.Opens = s
said_by s deed.Nothing = s

-- what the table says of a name after one more record of it, before which N stand
abbrev pub life_by : ℕ → Life → MarkDeed → Life
life_by i life d = record {
  said = said_by life.said d;
  since = if promises d then i else life.since;
}

-- the table after one more record of this name, if it has one
abbrev pub marked_by : ℕ → SaidTable → MarkDeed → Option Xid → SaidTable
marked_by i t d None = t
marked_by i t d (Some x) = insert_entry same t x (life_by i (life_in t x) d)

-- the table after the record of this mark, before which N stand
abbrev pub marked : ℕ → SaidTable → TrimMark → SaidTable
marked i t m = marked_by i t m.deed m.name
