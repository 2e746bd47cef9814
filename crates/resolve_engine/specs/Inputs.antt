-- A tree and the logs of some of its processes, as an input says them, and what is wrong with another input.
use Rattle.std.specs.Prelude.{◌≡◌, ℕ, ◌+◌, List, [], Ok, Err, Result, ⊤}
use Rattle.protocol.specs.declared.trees.TreeProcess.{TreeProcess}
use Rattle.tree_script.specs.declared.script.ScriptError.{ScriptError}
use Rattle.tree_script.specs.declared.script.ScriptError.TheVariants.{Memory, Fault}
use Rattle.tree_script.specs.declared.script.ScriptFault.{ScriptFault}
use Rattle.tree_script.specs.declared.script.ScriptFault.TheVariants.{Line}
use Rattle.tree_script.specs.Inputs.{IsTreeFront, IsFrontFault}
use Rattle.log_script.specs.declared.line.ProcessLog.{ProcessLog}
use Rattle.log_script.specs.Logs.{IsNumberedFault, logs_behind}

-- the logs of the lines after the line of three dashes, which has this number; or the number of the line that
-- is wrong
abbrev pub some_logs_of : List TreeProcess → ℕ → List (List ℕ) → Result (List ProcessLog) ℕ
some_logs_of tree rule lines = logs_behind tree [] (rule + 1) lines

-- the input is the text of this tree and, after the line of three dashes, the lines of these logs
abbrev pub IsSomeLogsText : List ℕ → List TreeProcess → List ProcessLog → Type 0
IsSomeLogsText input tree logs =
    (rule : ℕ) × (lines : List (List ℕ)) × IsTreeFront input tree rule lines
    × (some_logs_of tree rule lines ≡ Ok logs)

-- what is wrong with an input
abbrev pub IsSomeLogsFault : List ℕ → ScriptFault → Type 0
IsSomeLogsFault input (Line n) =
    (tree : List TreeProcess) × (rule : ℕ) × (lines : List (List ℕ)) × IsTreeFront input tree rule lines
    × (some_logs_of tree rule lines ≡ Err n)
IsSomeLogsFault input fault = IsFrontFault input fault

-- memory was refused, or there is this fault
abbrev pub IsSomeLogsError : List ℕ → ScriptError → Type 0
IsSomeLogsError input Memory = ⊤
IsSomeLogsError input (Fault fault) = IsSomeLogsFault input fault
