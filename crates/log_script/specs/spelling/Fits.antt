-- Which trees and logs can be written.
use Rattle.std.specs.Prelude.{◌≡◌, ◌≤◌, ◌<◌, ◌^◌, ℕ, true, List, [], length, All, Option, Some, None}
use Rattle.std.specs.Char.{IsAsciiAlphabetic}
use Rattle.std.specs.List.{AllByRecursion}
use Rattle.protocol.specs.declared.names.ProcessId.{ProcessId}
use Rattle.protocol.specs.declared.trees.TreeProcess.{TreeProcess}
use Rattle.protocol.specs.Trees.{IsTree}
use Rattle.tree_script.specs.Documents.{MayHaveInfo}
use Rattle.log_script.specs.declared.line.ProcessLog.{ProcessLog}
use Rattle.log_script.specs.Laws.{AreFirst}
use Rattle.log_script.specs.Logs.{each_has_log}

-- a process has a number from 1 on, below 2^32
abbrev pub IsNumbered : ProcessId → Type 0
IsNumbered p = (1 ≤ p.0) × (p.0 < 2 ^ 32)

-- a parent, if there is one, has such a number
abbrev pub FitsParent : Option ProcessId → Type 0
FitsParent None = Unit {0}
FitsParent (Some p) = IsNumbered p

-- an info, if there is one, has up to 32 letters
abbrev pub FitsInfo : Option (List ℕ) → Type 0
FitsInfo None = Unit {0}
FitsInfo (Some info) = (length info ≤ 32) × All IsAsciiAlphabetic info

-- a process has numbers and an info that can be written, and an info at a manager alone
pub record FitsEntry (e : TreeProcess) : Type 0 where
  pub id_fits : IsNumbered e.id
  pub parent_fits : FitsParent e.parent
  pub info_fits : FitsInfo e.info
  pub info_kind : MayHaveInfo e.kind e.info

-- the processes can be written, and are a tree
pub record FitsTree (es : List TreeProcess) : Type 0 where
  pub entries_fit : AllByRecursion FitsEntry es
  pub is_tree : IsTree es

-- the logs can be written: one for each process of the tree, and no other
pub record FitsLogs (es : List TreeProcess) (ls : List ProcessLog) : Type 0 where
  pub are_first : AreFirst es [] ls
  pub each_has_one : each_has_log es ls ≡ true
