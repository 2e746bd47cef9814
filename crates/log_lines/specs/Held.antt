-- What a log holds, line by line.
use Rattle.std.specs.Prelude.{ℕ, ◌==◌, if◌then◌else◌, List, [], ◌++◌, codes}
use Rattle.std.specs.List.{flat_map}
use Rattle.std.specs.Fmt.{decimal}
use Rattle.protocol.specs.declared.names.ProcessId.{ProcessId}
use Rattle.protocol.specs.declared.records.Record.{Record}
use Rattle.protocol.specs.Records.{kind_of}
use Rattle.protocol.specs.Texts.{kind_word}
use Rattle.log_text.specs.declared.form.LogForm.{LogForm}
use Rattle.log_rules.specs.order.Logs.{LogReading, Whole, Damaged, read_log}
use Rattle.log_script.specs.Places.{Placed, placed_records}
use Rattle.log_lines.specs.Words.{record_words}

-- the line that comes before the records of a process
abbrev pub heading_text : ProcessId → List ℕ
heading_text p = codes "log " ++ decimal p.0 ++ codes "\n"

-- the line of a record: the place of its first byte, its kind, its name and what it carries
abbrev pub placed_text : ℕ → Record → List ℕ
placed_text place r = decimal place ++ codes " " ++ kind_word (kind_of r) ++ record_words r ++ codes "\n"

-- the lines of records
abbrev pub records_text : List Placed → List ℕ
records_text ps = flat_map (λ x. placed_text x.place x.read.entry) ps

-- the line of a torn tail, if there is one
abbrev pub torn_text : ℕ → List ℕ
torn_text n = if n == 0 then [] else codes "torn " ++ decimal n ++ codes "\n"

-- the line of a torn tail of a log that was read so
abbrev pub tail_text : LogReading → List ℕ
tail_text (Whole ls torn) = torn_text torn
tail_text (Damaged place) = []

-- the heading of a log, and a line for each record of its bytes
abbrev pub listed_text : LogForm → List ℕ → List ℕ
listed_text f bytes = heading_text f.process ++ records_text (placed_records f bytes)

-- what a log holds
unfoldable pub held_text : LogForm → List ℕ → List ℕ
held_text f bytes =
    heading_text f.process ++ records_text (placed_records f bytes) ++ tail_text (read_log f bytes)
