-- How many rows a picture may have, and when it may be too long.
use Rattle.std.specs.Prelude.{ℕ, ◌+◌, ◌*◌, ◌^◌, ◌≤◌, ◌⊎◌, List, length, drop}
use Rattle.protocol.specs.declared.trees.TreeProcess.{TreeProcess}
use Rattle.protocol.specs.declared.events.JournalEntry.{JournalEntry}
use Rattle.picture_layout.specs.declared.rows.Count.{Count}
use Rattle.picture_layout.specs.declared.rows.Steps.{Steps}
use Rattle.picture_layout.specs.Whole.{records_in, sent_in}

-- at most N rows are drawn of these steps: one for each record and each message, and four more a step
abbrev pub most_step_rows : List JournalEntry → ℕ
most_step_rows es = 4 * length es + length (records_in es) + length (sent_in es)

-- the most rows that are drawn of N events and these steps: two for each event, its own and a ruler's
abbrev pub most_rows : ℕ → List JournalEntry → ℕ
most_rows events es = 1 + 2 * events + most_step_rows es

-- a picture of this tree, N events and these steps may be too long: it may have 2^32 processes or rows
abbrev pub IsLong : List TreeProcess → ℕ → List JournalEntry → Type 0
IsLong tree events es = (2 ^ 32 ≤ length tree) ⊎ (2 ^ 32 ≤ most_rows events es)

-- the rows that were counted, and the most that the steps to come may have
abbrev pub rows_with : Count → Steps → ℕ
rows_with count steps = count.row + most_step_rows (drop steps.made steps.entries.now)
