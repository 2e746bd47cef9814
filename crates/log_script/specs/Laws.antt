-- The law of the lines of logs.
use Rattle.std.specs.Prelude.{◌≡◌, ℕ, true, List, [], ◌∷◌, ◌++◌, ⊤, map, Ok}
use Rattle.protocol.specs.declared.trees.TreeProcess.{TreeProcess}
use Rattle.log_script.specs.declared.line.ProcessLog.{ProcessLog}
use Rattle.log_script.specs.Lines.{FitsLog, log_line}
use Rattle.log_script.specs.Logs.{each_has_log, logs_of, may_follow}

-- after those of the first list each log of the second is the first of a process of the tree
abbrev pub AreFirst : List TreeProcess → List ProcessLog → List ProcessLog → Type 0
AreFirst es seen [] = ⊤
AreFirst es seen (l ∷ ls) = FitsLog l × (may_follow es seen l ≡ true) × AreFirst es (seen ++ l ∷ []) ls

-- the lines of logs, one for each process of a tree, read as these logs
abbrev pub LinesRead : Type 0
LinesRead = (es : List TreeProcess) (ls : List ProcessLog) (rule : ℕ) → AreFirst es [] ls
    → each_has_log es ls ≡ true
    → logs_of es rule (map log_line ls) ≡ Ok ls
