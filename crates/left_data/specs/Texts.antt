-- The lines of the data that managers hold.
use Rattle.std.specs.Prelude.{ℕ, List, [], ◌∷◌, ◌++◌, codes}
use Rattle.std.specs.List.{flat_map}
use Rattle.std.specs.Fmt.{decimal}
use Rattle.protocol.specs.declared.names.Kind.{Kind}
use Rattle.protocol.specs.declared.names.Kind.TheVariants.{Coordinator, Manager}
use Rattle.protocol.specs.declared.names.ProcessId.{ProcessId}
use Rattle.protocol.specs.declared.records.LogRecord.{LogRecord}
use Rattle.protocol.specs.declared.trees.TreeProcess.{TreeProcess}
use Rattle.protocol.specs.Store.{data_of}
use Rattle.run_notes.specs.Words.{bytes_text}

-- the line of a key and its value at a process
abbrev pub pair_line : ProcessId → List ℕ × List ℕ → List ℕ
pair_line q p = codes "data " ++ decimal q.0 ++ codes " " ++ bytes_text p.0 ++ codes " " ++ bytes_text
    p.1 ++ codes "\n"

-- the lines of the keys and values of a process
abbrev pub pairs_text : ProcessId → List (List ℕ × List ℕ) → List ℕ
pairs_text q ps = flat_map (pair_line q) ps

-- the lines of a process of this kind whose log has these records: a manager's keys and values, and nothing
-- of a coordinator
abbrev pub kind_lines : Kind → ProcessId → List LogRecord → List ℕ
kind_lines Coordinator q ls = []
kind_lines Manager q ls = pairs_text q (data_of ls).pairs

-- the lines of a process whose log has these records
abbrev pub process_lines : TreeProcess → List LogRecord → List ℕ
process_lines e ls = kind_lines e.kind e.id ls

-- the lines of these processes, whose logs have these records, in order
unfoldable pub data_lines : List TreeProcess → List (List LogRecord) → List ℕ
data_lines [] logs = []
data_lines (e ∷ es) [] = []
data_lines (e ∷ es) (ls ∷ logs) = process_lines e ls ++ data_lines es logs
