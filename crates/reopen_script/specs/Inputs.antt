-- Which bytes are a script that may begin its events with logs, and what is wrong with others.
use Rattle.std.specs.Prelude.{◌≡◌, ◌⊎◌, ℕ, ◌+◌, ◌<◌, ◌≤◌, List, Option, Ok, Err}
use Rattle.protocol.specs.declared.events.Event.{Event}
use Rattle.protocol.specs.declared.trees.TreeProcess.{TreeProcess}
use Rattle.protocol.specs.Trees.{root_of}
use Rattle.script_words.specs.Lines.{asked_in}
use Rattle.tree_script.specs.declared.script.ScriptError.{ScriptError}
use Rattle.tree_script.specs.declared.script.ScriptError.TheVariants.{Memory, Fault}
use Rattle.tree_script.specs.declared.script.ScriptFault.{ScriptFault}
use Rattle.tree_script.specs.declared.script.ScriptFault.TheVariants.{TooLong, Line}
use Rattle.tree_script.specs.Inputs.{IsTreeFront, IsFrontFault, LinesState, asked_by}
use Rattle.log_script.specs.declared.line.ProcessLog.{ProcessLog}
use Rattle.reopen_script.specs.Ahead.{behind_in, leading, logs_ahead}

-- the lines after the logs, where N lines are before the first of all these
abbrev pub lines_behind : List TreeProcess → ℕ → List (List ℕ) → LinesState
lines_behind tree before lines = record {
  root = root_of tree;
  before = before + leading lines;
  lines = behind_in lines;
}

-- bytes that begin with this tree and, after the line of three dashes, which has this number, with these
-- lines, of which no more than 100,000 after the logs ask for an event
pub record HasLines (bytes : List ℕ) (tree : List TreeProcess) (rule : ℕ)
    (lines : List (List ℕ)) : Type 0 where
  pub front : IsTreeFront bytes tree rule lines
  pub few : asked_in (behind_in lines) ≤ 100000

-- bytes that are a script of this tree and these logs, or of none, as far as the lines after them, which are
-- these
pub record IsOpenReopen (bytes : List ℕ) (tree : List TreeProcess) (logs : Option (List ProcessLog))
    (s : LinesState) : Type 0 where
  pub rule : ℕ
  pub lines : List (List ℕ)
  pub has : HasLines bytes tree rule lines
  pub logs_are : logs_ahead tree rule lines ≡ Ok logs
  pub behind : s ≡ lines_behind tree rule lines

-- bytes that are a script of this tree, these logs, or none, and these events
pub record IsReopenScript (bytes : List ℕ) (tree : List TreeProcess) (logs : Option (List ProcessLog))
    (events : List Event) : Type 0 where
  pub rule : ℕ
  pub lines : List (List ℕ)
  pub has : HasLines bytes tree rule lines
  pub logs_are : logs_ahead tree rule lines ≡ Ok logs
  pub asks : asked_by (lines_behind tree rule lines) ≡ Ok events

-- the first line that is wrong has this number: one of those ahead of the events, or, where these are right,
-- one of no event
pub record HasWrongLine (bytes : List ℕ) (number : ℕ) : Type 0 where
  pub tree : List TreeProcess
  pub rule : ℕ
  pub lines : List (List ℕ)
  pub has : HasLines bytes tree rule lines
  pub wrong : (logs_ahead tree rule lines ≡ Err number)
      ⊎ ((logs : Option (List ProcessLog)) × (logs_ahead tree rule lines ≡ Ok logs)
      × (asked_by (lines_behind tree rule lines) ≡ Err number))

-- what is wrong with bytes, each fault where none of those above it is there
abbrev pub IsReopenFault : List ℕ → ScriptFault → Type 0
IsReopenFault bytes TooLong =
    (tree : List TreeProcess) × (rule : ℕ) × (lines : List (List ℕ)) × IsTreeFront bytes tree rule lines
    × (100000 < asked_in (behind_in lines))
IsReopenFault bytes (Line number) = HasWrongLine bytes number
IsReopenFault bytes fault = IsFrontFault bytes fault

-- memory was refused, or there is this fault
abbrev pub IsReopenError : List ℕ → ScriptError → Type 0
IsReopenError bytes Memory = Unit {0}
IsReopenError bytes (Fault fault) = IsReopenFault bytes fault
