-- The records of a branch, under the name that its XID is.
use Rattle.std.specs.Prelude.{◌<◌, ⊤, ℕ, List, [], ◌∷◌, length}
use Rattle.std.specs.List.{All}
use Rattle.xa_xid.specs.Xids.{XidParts}
use Rattle.protocol.specs.declared.records.BranchName.{BranchName}
use Rattle.protocol.specs.declared.records.LogRecord.{LogRecord}
use Rattle.protocol.specs.declared.records.Record.{Record}
use Rattle.protocol_words.specs.record_of
use Rattle.log_text.specs.Parts.{name_in}
use Rattle.log_text.specs.Payloads.{SizedWrite, outcome_byte, writes_text}
use Rattle.log_text.specs.declared.branch.BranchEntry.{BranchEntry}
use Rattle.log_text.specs.declared.branch.BranchEntry.TheVariants.{Prepared, Committed, RolledBack, Direct, HeurCommit, HeurRollback, Told, Forgot}

-- the record under a name
abbrev pub entry_under : BranchEntry → BranchName → Record
entry_under (Prepared ws) b = record_of.Prepared b ws.now
entry_under Committed b = record_of.Committed b
entry_under RolledBack b = record_of.RolledBack b
entry_under (Direct ws) b = record_of.Direct b ws.now
entry_under HeurCommit b = record_of.HeurCommit b
entry_under HeurRollback b = record_of.HeurRollback b
entry_under (Told o) b = record_of.Told b o
entry_under Forgot b = record_of.Forgot b

-- the record in a log, under the whole name of an XID
abbrev pub branch_record : BranchEntry → XidParts → LogRecord
branch_record e x = record { entry = entry_under e (name_in x).1; parent = (name_in x).0 }

-- what the record has after its name
abbrev pub rest_text : BranchEntry → List ℕ
rest_text (Prepared ws) = writes_text ws.now
rest_text (Direct ws) = writes_text ws.now
rest_text (Told o) = outcome_byte o ∷ []
rest_text _ = []

-- each number and length that this tells in one byte or two fits there
abbrev pub IsSizedRest : BranchEntry → Type 0
IsSizedRest (Prepared ws) = (length ws.now < 256) × All SizedWrite ws.now
IsSizedRest (Direct ws) = (length ws.now < 256) × All SizedWrite ws.now
IsSizedRest _ = ⊤
