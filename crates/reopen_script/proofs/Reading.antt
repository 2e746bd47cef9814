-- A script that was opened, and what its lines ask for.
use Rattle.std.proofs.Common.{◌≡◌, ◌∙◌, inl, ap, sym, refl, ℕ, length, List, Option, Ok, arith}
use Rattle.std.proofs.lemmas.List.{take_all}
use Rattle.protocol.specs.declared.events.Event.{Event}
use Rattle.protocol.specs.declared.trees.TreeProcess.{TreeProcess}
use Rattle.protocol.specs.Trees.{IsTree}
use Rattle.tree_script.specs.Inputs.{AsksFirst, LinesState, asked_by}
use Rattle.log_script.specs.declared.line.ProcessLog.{ProcessLog}
use Rattle.tree_script.specs.declared.script.ScriptError.{ScriptError}
use Rattle.tree_script.specs.declared.script.ScriptError.TheVariants.{Memory, Fault}
use Rattle.tree_script.specs.declared.script.ScriptFault.TheVariants.{Utf8, TreeText, Tree, TooLong, Line}
use Rattle.reopen_script.specs.Ahead.{IsNumbered, logs_ahead}
use Rattle.reopen_script.specs.Inputs.{HasLines, IsOpenReopen, IsReopenError, IsReopenScript, lines_behind}

-- one of the lines ahead of the events is wrong
pub wrong_ahead : (bytes : List ℕ) (tree : List TreeProcess) (rule : ℕ) (lines : List (List ℕ))
    (error : ScriptError)
    → HasLines bytes tree rule lines → IsNumbered error (logs_ahead tree rule lines)
    → IsReopenError bytes error
wrong_ahead bytes tree rule lines Memory has h = tt
wrong_ahead bytes tree rule lines (Fault (Line n)) has h =
    record { tree = tree; rule = rule; lines = lines; has = has; wrong = inl h }
wrong_ahead bytes tree rule lines (Fault Utf8) has h = absurd h
wrong_ahead bytes tree rule lines (Fault TreeText) has h = absurd h
wrong_ahead bytes tree rule lines (Fault (Tree cause)) has h = absurd h
wrong_ahead bytes tree rule lines (Fault TooLong) has h = absurd h

-- the lines of an opened script were read
pub script_of : (bytes : List ℕ) (tree : List TreeProcess) (logs : Option (List ProcessLog)) (s : LinesState)
    (es : List Event) → IsOpenReopen bytes tree logs s → asked_by s ≡ Ok es
    → IsReopenScript bytes tree logs es
script_of bytes tree logs s es o read = record {
  rule = o.rule;
  lines = o.lines;
  has = o.has;
  logs_are = o.logs_are;
  asks = ap asked_by (sym o.behind) ∙ read;
}

-- the tree of a script passed its check
pub opened_tree : (bytes : List ℕ) (tree : List TreeProcess) (logs : Option (List ProcessLog))
    (s : LinesState)
    → IsOpenReopen bytes tree logs s → IsTree tree
opened_tree bytes tree logs s o = o.has.front.is_tree

pub script_tree : (bytes : List ℕ) (tree : List TreeProcess) (logs : Option (List ProcessLog))
    (es : List Event)
    → IsReopenScript bytes tree logs es → IsTree tree
script_tree bytes tree logs es s = s.has.front.is_tree

-- a script as far as its lines, all of which ask for its events
pub record AsksAll (bytes : List ℕ) (tree : List TreeProcess) (logs : Option (List ProcessLog))
    (es : List Event) : Type 0 where
  pub lines : LinesState
  pub opened : IsOpenReopen bytes tree logs lines
  pub asks : AsksFirst lines (length lines.lines) es

pub asks_all : (bytes : List ℕ) (tree : List TreeProcess) (logs : Option (List ProcessLog)) (es : List Event)
    → IsReopenScript bytes tree logs es → AsksAll bytes tree logs es
asks_all bytes tree logs es s =
    let lines = lines_behind tree s.rule s.lines in
    record {
      lines = lines;
      opened = record { rule = s.rule; lines = s.lines; has = s.has; logs_are = s.logs_are; behind = refl };
      asks = ap (λ (xs : List (List ℕ)). asked_by (record lines { lines = xs }))
          (take_all (length lines.lines) lines.lines (omega arith)) ∙ s.asks;
    }
