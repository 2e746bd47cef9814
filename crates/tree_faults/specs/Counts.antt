-- How many records are in the log of a process.
use Rattle.std.specs.Prelude.{◌≡◌, ◌+◌, ◌-◌, ◌&&◌, ⊤, ℕ, if◌then◌else◌, nat_eq, bytes_eq, Option, Some, None, List, length}
use Rattle.std.specs.List.{list_any}
use Rattle.protocol.specs.declared.events.Fault.{Fault}
use Rattle.protocol.specs.declared.records.ShownRecord.{ShownRecord}
use Rattle.log_records.specs.Sights.{records_of}
use Rattle.process_state.specs.States.{CoreState}
use Rattle.tree_state.specs.Steps.{records_kept}
use Rattle.tree_state.specs.Worlds.{KeepsBytes}
use Rattle.tree_faults.specs.declared.count.Count.{Count}

-- how many records are in its log, and how many of them are forced
abbrev pub count_in : CoreState → Count
count_in s = record { records = length (records_of s.log.kept); forced = length s.log.kept.forced }

-- the count is that of the process, if there is one
abbrev pub CountsAt : Count → Option CoreState → Type 0
CountsAt c None = ⊤
CountsAt c (Some s) = c ≡ count_in s

-- that of N records, all of them forced
abbrev pub all_forced : ℕ → Count
all_forced n = record { records = n; forced = n }

-- that once these records were written: where one of them is forced, all are
abbrev pub after_written : Count → List ShownRecord → Count
after_written c ws =
    let n = c.records + length ws in
    record { records = n; forced = if list_any (λ w. w.forced) ws then n else c.forced }

-- a restart that names these bytes keeps N unforced records
pub record KeepsCount (s : CoreState) (bytes : Option ℕ) (count : ℕ) : Type 0 where
  pub keep : ℕ
  pub keeps : KeepsBytes s bytes keep
  pub count_is : count ≡ records_kept s keep

-- a restart of a process, if there is one, that names these bytes keeps N unforced records
abbrev pub KeepsAt : Option ℕ → Option CoreState → ℕ → Type 0
KeepsAt bytes None count = ⊤
KeepsAt bytes (Some s) count = KeepsCount s bytes count

-- What a fault left.

-- of a step before which N records stood in the log, by the count before it, and that now
abbrev pub left_since : ℕ → Count → Count → Fault
left_since stood before now = record { appended = now.records - stood; forced = now.forced - before.forced }

-- which log a trim left: 0 the old one, if these are its bytes and those of the records now, 1 another
abbrev pub trim_left : List ℕ → List ℕ → Count → Count → ℕ
trim_left text bytes before now = if bytes_eq text bytes && nat_eq before.forced now.forced then 0 else 1
