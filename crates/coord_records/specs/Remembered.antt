-- What a restart remembers of its log.
use Rattle.std.specs.Prelude.{◌≡◌, ◌≤◌, ◌<◌, ◌⊎◌, ⊤, ℕ, Bool, true, false, ◌||◌, nat_le, Option, None, Some, is_some, List, filter}
use Rattle.std.specs.Map.{lookup}
use Rattle.protocol.specs.declared.names.Case.{Case}
use Rattle.protocol.specs.declared.records.Record.{Record}
use Rattle.protocol.specs.declared.standings.Standing.{Standing}
use Rattle.protocol.specs.declared.standings.Standing.TheVariants.{Unknown}
use Rattle.protocol.specs.Records.{boot_of}
use Rattle.coord_records.specs.Numbered.{numbered_in}
use Rattle.coord_records.specs.Readings.{ReadLog, SummaryTable, reading_of, same}
use Rattle.coord_records.specs.Summaries.{Summary, standing_of, summary_of}

-- what is remembered of a log: what its records say, but for cases that were numbered in a boot before this
-- one
pub record LogMemory : Type 0 where
  pub said : ReadLog
  pub reached : ℕ

-- the entries of the cases that pass this test
abbrev pub entries_of : (Case → Bool) → SummaryTable → SummaryTable
entries_of keeps t = filter (λ e. keeps e.0) t

-- the case is not Unknown
abbrev pub is_known : Standing → Bool
is_known Unknown = false
is_known _ = true

-- the entry must be remembered, if the log has reached this boot: its case is not Unknown, or its first
-- records may still come
abbrev pub is_needed : ℕ → Case × Summary → Bool
is_needed boot e = is_known (standing_of e.1) || nat_le boot (numbered_in e.0)

-- it is remembered what these records say, but for cases that are Unknown by them and were numbered in a boot
-- before the one that was reached
pub record RemembersCases (rs : List Record) (m : LogMemory) : Type 0 where
  pub keeps : Case → Bool
  pub boot : m.said.boot ≡ boot_of rs
  pub table : m.said.table ≡ entries_of keeps (reading_of rs).table
  pub unknown : (c : Case) → keeps c ≡ false → standing_of (summary_of rs c) ≡ Unknown
  pub early : (c : Case) → keeps c ≡ false → numbered_in c < m.reached

-- a record of this case, if it is of any, may follow: the case is found, or was numbered in the boot that was
-- reached or a later one
abbrev pub MayFollow : LogMemory → Option Case → Type 0
MayFollow m None = ⊤
MayFollow m (Some c) = (is_some (lookup (same c) m.said.table) ≡ true) ⊎ (m.reached ≤ numbered_in c)
