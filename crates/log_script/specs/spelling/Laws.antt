-- The laws of writing a tree and its logs, and of reading them.
use Rattle.std.specs.Prelude.{◌≡◌, ℕ, List}
use Rattle.std.specs.List.{AllByRecursion}
use Rattle.protocol.specs.declared.trees.TreeProcess.{TreeProcess}
use Rattle.tree_script.specs.Documents.{IsTreeText}
use Rattle.tree_script.specs.declared.script.ScriptFault.{ScriptFault}
use Rattle.log_script.specs.declared.line.ProcessLog.{ProcessLog}
use Rattle.log_script.specs.Logs.{IsLogsFault, IsLogsText}
use Rattle.log_script.specs.Trees.{logs_text, tree_text}
use Rattle.log_script.specs.spelling.Fits.{FitsEntry, FitsLogs, FitsTree}

-- what is written of a tree and its logs reads as this tree and these logs
abbrev pub WrittenIsRead : Type 0
WrittenIsRead = (es : List TreeProcess) (ls : List ProcessLog) → FitsTree es → FitsLogs es ls
    → IsLogsText (logs_text es ls) es ls

-- a tree and its logs that were read can be written
abbrev pub ReadCanBeWritten : Type 0
ReadCanBeWritten = (input : List ℕ) (es : List TreeProcess) (ls : List ProcessLog) → IsLogsText input es ls
    → FitsTree es × FitsLogs es ls

-- an input reads as one tree and one list of logs
abbrev pub ReadInOneWay : Type 0
ReadInOneWay = (input : List ℕ) (es fs : List TreeProcess) (ls ms : List ProcessLog) → IsLogsText input es ls
    → IsLogsText input fs ms → (es ≡ fs) × (ls ≡ ms)

-- an input that reads as a tree and its logs has no fault
abbrev pub ReadHasNoFault : Type 0
ReadHasNoFault = (input : List ℕ) (es : List TreeProcess) (ls : List ProcessLog) (fault : ScriptFault)
    → IsLogsText input es ls
    → IsLogsFault input fault → ⊥

-- the text that is written of processes reads as these processes
abbrev pub TreeTextIsRead : Type 0
TreeTextIsRead = (es : List TreeProcess) → AllByRecursion FitsEntry es → IsTreeText (tree_text es) es
