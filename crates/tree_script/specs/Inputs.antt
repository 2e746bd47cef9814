-- Which bytes are a script, and what is wrong with others.
use Rattle.std.specs.Prelude.{◌≡◌, ℕ, ◌+◌, ◌<◌, ◌≤◌, false, true, List, length, take, Option, None, Some, Result, Ok, Err}
use Rattle.std.specs.Str.{IsUtf8}
use Rattle.std.specs.Str.Lines.{lines_of_parts}
use Rattle.protocol.specs.declared.names.ProcessId.{ProcessId}
use Rattle.protocol.specs.declared.trees.TreeProcess.{TreeProcess}
use Rattle.protocol.specs.declared.events.Event.{Event}
use Rattle.protocol.specs.Trees.{IsTree, IsFirstFault, root_of}
use Rattle.tree_script.specs.declared.script.ScriptFault.{ScriptFault}
use Rattle.tree_script.specs.declared.script.ScriptFault.TheVariants.{Utf8, TreeText, Tree, TooLong, Line}
use Rattle.tree_script.specs.declared.script.ScriptError.{ScriptError}
use Rattle.tree_script.specs.declared.script.ScriptError.TheVariants.{Memory, Fault}
use Rattle.tree_script.specs.Documents.{IsTreeText}
use Rattle.tree_script.specs.Rules.{pieces, around_rule}
use Rattle.script_words.specs.Lines.{asked_in, is_skipped}
use Rattle.tree_script.specs.Events.{event_at}
use Rattle.tree_script.specs.Script.{events_at}
use Rattle.trace_lines.specs.Trace.{lines_text}

-- bytes that are text, with a tree text before the first line of three dashes
pub record HasTreeText (bytes : List ℕ) (fronts behind : List (List ℕ))
    (tree : List TreeProcess) : Type 0 where
  pub text : IsUtf8 bytes
  pub rule : around_rule (pieces bytes) ≡ Some (fronts, behind)
  pub tree_text : IsTreeText (lines_text fronts) tree

-- bytes with this tree before the line of three dashes, the number of that line, and the lines after it
pub record IsTreeFront (bytes : List ℕ) (tree : List TreeProcess) (rule : ℕ)
    (lines : List (List ℕ)) : Type 0 where
  pub fronts : List (List ℕ)
  pub behind : List (List ℕ)
  pub has_text : HasTreeText bytes fronts behind tree
  pub is_tree : IsTree tree
  pub rule_is : rule ≡ length fronts + 1
  pub lines_are : lines ≡ lines_of_parts behind

-- what the lines after the rule ask for; the first of them is the second after the tree text
abbrev pub script_events : List (List ℕ) → List (List ℕ) → List TreeProcess → Result (List Event) ℕ
script_events fronts behind tree =
    events_at (event_at (root_of tree)) (length fronts + 1 + 1) (lines_of_parts behind)

-- the lines of a script after the line of three dashes: the root of its tree, how many lines are before
-- them, and what they are
pub record LinesState : Type 0 where
  pub root : ProcessId
  pub before : ℕ
  pub lines : List (List ℕ)

-- what they ask for
abbrev pub asked_by : LinesState → Result (List Event) ℕ
asked_by s = events_at (event_at s.root) (s.before + 1) s.lines

-- N of them, the first ones, ask for these events
abbrev pub AsksFirst : LinesState → ℕ → List Event → Type 0
AsksFirst s count events = asked_by (record s { lines = take count s.lines }) ≡ Ok events

-- what was read of the line with this number, if there is one
abbrev pub Asks : ProcessId → ℕ → Option (List ℕ) → Result (Option Event) ScriptError → Type 0
Asks root n line (Err Memory) = Unit {0}
Asks root n None (Ok None) = Unit {0}
Asks root n (Some line) (Ok None) = is_skipped line ≡ true
Asks root n (Some line) (Ok (Some e)) = (is_skipped line ≡ false) × (event_at root line ≡ Some e)
Asks root n (Some line) (Err (Fault (Line k))) =
    (is_skipped line ≡ false) × (event_at root line ≡ None) × (k ≡ n)
Asks root n line read = ⊥

-- memory was refused, or the first line that is not an event has the fault's number
abbrev pub IsLineError : ScriptError → Result (List Event) ℕ → Type 0
IsLineError Memory asked = Unit {0}
IsLineError (Fault (Line n)) asked = asked ≡ Err n
IsLineError error asked = ⊥

-- bytes that are a script of this tree as far as its lines, which are these
abbrev pub IsOpenScript : List ℕ → List TreeProcess → LinesState → Type 0
IsOpenScript bytes tree s =
    (fronts : List (List ℕ)) × (behind : List (List ℕ)) × HasTreeText bytes fronts behind tree
    × IsTree tree
    × (asked_in (lines_of_parts behind) ≤ 100000) × (asked_by s ≡ script_events fronts behind tree)

-- bytes that are a script of this tree and these events
abbrev pub IsScript : List ℕ → List TreeProcess → List Event → Type 0
IsScript bytes tree events =
    (fronts : List (List ℕ)) × (behind : List (List ℕ)) × HasTreeText bytes fronts behind tree
    × IsTree tree
    × (asked_in (lines_of_parts behind) ≤ 100000) × (script_events fronts behind tree ≡ Ok events)

-- what is wrong with bytes before the lines, each fault where none of those above it is there
abbrev pub IsFrontFault : List ℕ → ScriptFault → Type 0
IsFrontFault bytes Utf8 = IsUtf8 bytes → ⊥
IsFrontFault bytes TreeText =
    IsUtf8 bytes × ((fronts behind : List (List ℕ)) (tree : List TreeProcess)
    → HasTreeText bytes fronts behind tree → ⊥)
IsFrontFault bytes (Tree cause) =
    (fronts : List (List ℕ)) × (behind : List (List ℕ)) × (tree : List TreeProcess)
    × HasTreeText bytes fronts behind tree × IsFirstFault tree cause
IsFrontFault bytes TooLong = ⊥
IsFrontFault bytes (Line number) = ⊥

-- what is wrong with bytes, each fault where none of those above it is there
abbrev pub IsScriptFault : List ℕ → ScriptFault → Type 0
IsScriptFault bytes TooLong =
    (fronts : List (List ℕ)) × (behind : List (List ℕ)) × (tree : List TreeProcess)
    × HasTreeText bytes fronts behind tree × IsTree tree × (100000 < asked_in (lines_of_parts behind))
IsScriptFault bytes (Line number) =
    (fronts : List (List ℕ)) × (behind : List (List ℕ)) × (tree : List TreeProcess)
    × HasTreeText bytes fronts behind tree × IsTree tree × (asked_in (lines_of_parts behind) ≤ 100000)
    × (script_events fronts behind tree ≡ Err number)
IsScriptFault bytes fault = IsFrontFault bytes fault

-- memory was refused, or there is this fault
abbrev pub IsScriptError : List ℕ → ScriptError → Type 0
IsScriptError bytes Memory = Unit {0}
IsScriptError bytes (Fault fault) = IsScriptFault bytes fault

-- memory was refused, or there is this fault before the lines
abbrev pub IsFrontError : List ℕ → ScriptError → Type 0
IsFrontError bytes Memory = Unit {0}
IsFrontError bytes (Fault fault) = IsFrontFault bytes fault

-- the number of a fault
abbrev pub script_fault_number : ScriptFault → ℕ
script_fault_number TreeText = 1
script_fault_number (Tree cause) = 2
script_fault_number (Line number) = 3
script_fault_number Utf8 = 4
script_fault_number TooLong = 5
