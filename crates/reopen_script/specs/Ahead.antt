-- The lines ahead of the events of a script: those that say the logs of processes, and those that are skipped
-- among them.
use Rattle.std.specs.Prelude.{◌≡◌, ℕ, ◌+◌, ◌&&◌, ◌||◌, ◌==◌, Bool, List, [], ◌∷◌, ◌++◌, codes, drop, length, take, Option, Some, None, Result, Ok, Err, if◌then◌else◌}
use Rattle.std.specs.List.{prefix_len}
use Rattle.spellings.specs.Words.{cut_at}
use Rattle.protocol.specs.declared.trees.TreeProcess.{TreeProcess}
use Rattle.tree_script.specs.declared.script.ScriptError.{ScriptError}
use Rattle.tree_script.specs.declared.script.ScriptError.TheVariants.{Memory, Fault}
use Rattle.tree_script.specs.declared.script.ScriptFault.TheVariants.{Line}
use Rattle.script_words.specs.Lines.{is_skipped}
use Rattle.script_words.specs.Steps.{same}
use Rattle.log_script.specs.declared.line.ProcessLog.{ProcessLog}
use Rattle.log_script.specs.Lines.{log_at}
use Rattle.log_script.specs.Logs.{each_has_log}

-- the word `log`, alone or with something after it
abbrev pub log_word : List ℕ → Option (List ℕ × List ℕ) → Bool
log_word line None = same line (codes "log")
log_word line (Some p) = same p.0 (codes "log")

-- the first word of a line is `log`
unfoldable pub is_log : List ℕ → Bool
is_log line = log_word line (cut_at 32 line)

-- a line that may stand ahead of the events: it is skipped, or its first word is `log`
unfoldable pub is_ahead : List ℕ → Bool
is_ahead line = is_skipped line || is_log line

-- how many lines, the first ones, stand ahead of the events
abbrev pub leading : List (List ℕ) → ℕ
leading lines = prefix_len is_ahead lines

-- those lines
abbrev pub ahead_in : List (List ℕ) → List (List ℕ)
ahead_in lines = take (leading lines) lines

-- the lines after them
abbrev pub behind_in : List (List ℕ) → List (List ℕ)
behind_in lines = drop (leading lines) lines

-- what is read after a line: the line's number, where it is not the line of a log
abbrev pub line_then : List ProcessLog → ℕ → Option ProcessLog
    → (List ProcessLog → Result (List ProcessLog) ℕ) → Result (List ProcessLog) ℕ
line_then ls n None more = Err n
line_then ls n (Some l) more = more (ls ++ l ∷ [])

-- these logs and those of the lines, the first of which has this number; or the number of the first line that
-- is not the line of a log
unfoldable pub logs_in : List ProcessLog → ℕ → List (List ℕ) → Result (List ProcessLog) ℕ
logs_in ls n [] = Ok ls
logs_in ls n (line ∷ lines) =
    if is_skipped line then logs_in ls (n + 1) lines
    else line_then ls n (log_at line) (λ more. logs_in more (n + 1) lines)

-- each process of the tree has one of these logs, and no other process has one
abbrev pub are_of_all : List TreeProcess → List ProcessLog → Bool
are_of_all es ls = (length ls == length es) && each_has_log es ls

-- the number of the last of these lines that is not skipped, where the line before the first has this number;
-- the other number, where all are
unfoldable pub last_said : ℕ → ℕ → List (List ℕ) → ℕ
last_said last n [] = last
last_said last n (line ∷ lines) = last_said (if is_skipped line then last else n + 1) (n + 1) lines

-- the line at which it is told that the logs ahead are not those of all processes: the first after them, or,
-- if none is, the last of them that is not skipped
abbrev pub set_line : ℕ → List (List ℕ) → List (List ℕ) → ℕ
set_line before ahead [] = last_said before before ahead
set_line before ahead (line ∷ lines) = before + length ahead + 1

-- what is read of the logs ahead: none, if there is none; else they, if they are those of all processes, or
-- the number of the line that says that they are not
abbrev pub taken : List TreeProcess → ℕ → Result (List ProcessLog) ℕ → Result (Option (List ProcessLog)) ℕ
taken es n (Err k) = Err k
taken es n (Ok []) = Ok None
taken es n (Ok (l ∷ ls)) = if are_of_all es (l ∷ ls) then Ok (Some (l ∷ ls)) else Err n

-- the logs that the lines ahead say, none where they say none, where the line before the first has this
-- number; or the number of the line that is wrong
unfoldable pub logs_said : List TreeProcess → ℕ → List (List ℕ) → List (List ℕ)
    → Result (Option (List ProcessLog)) ℕ
logs_said es before ahead behind = taken es (set_line before ahead behind) (logs_in [] (before + 1) ahead)

-- those of the lines that stand ahead of the events
abbrev pub logs_ahead : List TreeProcess → ℕ → List (List ℕ) → Result (Option (List ProcessLog)) ℕ
logs_ahead es before lines = logs_said es before (ahead_in lines) (behind_in lines)

-- memory was refused, or this is the number of the line that is wrong
abbrev pub IsNumbered : {A : Type 0} → ScriptError → Result A ℕ → Type 0
IsNumbered Memory read = Unit {0}
IsNumbered (Fault (Line n)) read = read ≡ Err n
IsNumbered (Fault fault) read = ⊥
