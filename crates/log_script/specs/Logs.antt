-- A tree and its logs, as an input says them, and what is wrong with another input.
use Rattle.std.specs.Prelude.{◌≡◌, ℕ, ◌+◌, ◌&&◌, not, Bool, List, [], ◌∷◌, ◌++◌, length, Option, Some, None, Result, Ok, Err, if◌then◌else◌}
use Rattle.std.specs.List.{list_any, list_all}
use Rattle.protocol.specs.declared.names.ProcessId.{ProcessId}
use Rattle.protocol.specs.declared.trees.TreeProcess.{TreeProcess}
use Rattle.protocol.specs.Names.{same_process}
use Rattle.protocol.specs.Nodes.{is_listed}
use Rattle.tree_script.specs.declared.script.ScriptError.{ScriptError}
use Rattle.tree_script.specs.declared.script.ScriptError.TheVariants.{Memory, Fault}
use Rattle.tree_script.specs.declared.script.ScriptFault.{ScriptFault}
use Rattle.tree_script.specs.declared.script.ScriptFault.TheVariants.{Line}
use Rattle.tree_script.specs.Inputs.{IsTreeFront, IsFrontFault}
use Rattle.script_words.specs.Lines.{is_skipped}
use Rattle.log_script.specs.declared.line.ProcessLog.{ProcessLog}
use Rattle.log_script.specs.Lines.{log_at}

-- a process has a log among these
unfoldable pub has_log : List ProcessLog → ProcessId → Bool
has_log ls p = list_any (λ l. same_process l.process p) ls

-- the bytes of a process's log; none where it has no line
unfoldable pub bytes_of : List ProcessLog → ProcessId → List ℕ
bytes_of [] p = []
bytes_of (l ∷ ls) p = if same_process l.process p then l.bytes else bytes_of ls p

-- after these logs this one may stand: it is of a process of the tree, and the process has none yet
abbrev pub may_follow : List TreeProcess → List ProcessLog → ProcessLog → Bool
may_follow es ls l = is_listed es l.process && not (has_log ls l.process)

-- what is read after a line: the line's number, where it is not the line of a log that may be there
abbrev pub line_then : List TreeProcess → List ProcessLog → ℕ → Option ProcessLog
    → (List ProcessLog → Result (List ProcessLog) ℕ) → Result (List ProcessLog) ℕ
line_then es ls n None more = Err n
line_then es ls n (Some l) more = if may_follow es ls l then more (ls ++ l ∷ []) else Err n

-- these logs and those of the lines after them, the first of which has this number; or the number of the
-- first line that is not the line of a log that may be there
unfoldable pub logs_behind : List TreeProcess → List ProcessLog → ℕ → List (List ℕ)
    → Result (List ProcessLog) ℕ
logs_behind es ls n [] = Ok ls
logs_behind es ls n (line ∷ lines) =
    if is_skipped line then logs_behind es ls (n + 1) lines
    else line_then es ls n (log_at line) (λ more. logs_behind es more (n + 1) lines)

-- each process of the tree has a log among these
unfoldable pub each_has_log : List TreeProcess → List ProcessLog → Bool
each_has_log es ls = list_all (λ e. has_log ls e.id) es

-- the logs, where each process has one; else the number of the last line
abbrev pub complete : List TreeProcess → ℕ → Result (List ProcessLog) ℕ → Result (List ProcessLog) ℕ
complete es last (Ok ls) = if each_has_log es ls then Ok ls else Err last
complete es last (Err n) = Err n

-- the logs of the lines after the line of three dashes, which has this number; or the number of the line
-- that is wrong
unfoldable pub logs_of : List TreeProcess → ℕ → List (List ℕ) → Result (List ProcessLog) ℕ
logs_of es rule lines = complete es (rule + length lines) (logs_behind es [] (rule + 1) lines)

-- the input is the text of this tree and, after the line of three dashes, the lines of these logs
abbrev pub IsLogsText : List ℕ → List TreeProcess → List ProcessLog → Type 0
IsLogsText input tree logs =
    (rule : ℕ) × (lines : List (List ℕ)) × IsTreeFront input tree rule lines
    × (logs_of tree rule lines ≡ Ok logs)

-- what is wrong with an input
abbrev pub IsLogsFault : List ℕ → ScriptFault → Type 0
IsLogsFault input (Line n) =
    (tree : List TreeProcess) × (rule : ℕ) × (lines : List (List ℕ)) × IsTreeFront input tree rule lines
    × (logs_of tree rule lines ≡ Err n)
IsLogsFault input fault = IsFrontFault input fault

-- memory was refused, or there is this fault
abbrev pub IsLogsError : List ℕ → ScriptError → Type 0
IsLogsError input Memory = Unit {0}
IsLogsError input (Fault fault) = IsLogsFault input fault

-- memory was refused, or this is the number of the line that is wrong
abbrev pub IsNumberedFault : ScriptError → Result (List ProcessLog) ℕ → Type 0
IsNumberedFault Memory read = Unit {0}
IsNumberedFault (Fault (Line n)) read = read ≡ Err n
IsNumberedFault (Fault fault) read = ⊥
