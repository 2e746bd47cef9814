-- What is wrong with the logs of a tree, or with the input that says them, and the line of it.
use Rattle.std.specs.Prelude.{ℕ, List, [], ◌∷◌, ◌++◌, codes, Option, Some, None}
use Rattle.std.specs.Fmt.{decimal}
use Rattle.protocol.specs.declared.names.ProcessId.{ProcessId}
use Rattle.protocol.specs.declared.trees.TreeProcess.{TreeProcess}
use Rattle.protocol.specs.Trees.{tree_error_number}
use Rattle.tree_script.specs.declared.script.ScriptFault.{ScriptFault}
use Rattle.tree_script.specs.declared.script.ScriptFault.TheVariants.{Utf8, TreeText, Tree, TooLong, Line}
use Rattle.log_script.specs.declared.line.ProcessLog.{ProcessLog}
use Rattle.log_script.specs.Logs.{bytes_of}
use Rattle.log_rules.specs.order.Logs.{LogReading, Whole, Damaged, read_as}

-- a log that is damaged, and where
abbrev pub Damage : Type 0
Damage = Option (ProcessId × ℕ)

-- the damage of a log that was read so, or else that of the others
abbrev pub damage_or : ProcessId → LogReading → Damage → Damage
damage_or q (Damaged place) more = Some (q, place)
damage_or q (Whole ls torn) more = more

-- the first log of these processes that is damaged
unfoldable pub first_damage : List TreeProcess → List ProcessLog → Damage
first_damage [] logs = None
first_damage (e ∷ es) logs =
    damage_or e.id (read_as e.id e.kind (bytes_of logs e.id)) (first_damage es logs)

-- the line of a damaged log
abbrev pub damage_text : ProcessId → ℕ → List ℕ
damage_text q place = codes "damaged " ++ decimal q.0 ++ codes " " ++ decimal place ++ codes "\n"

-- the line of a refused input
abbrev pub fault_text : ScriptFault → List ℕ
fault_text TreeText = codes "error 1\n"
fault_text (Tree cause) = codes "error 2 " ++ decimal (tree_error_number cause) ++ codes "\n"
fault_text (Line n) = codes "error 3 " ++ decimal n ++ codes "\n"
fault_text Utf8 = codes "error 4\n"
fault_text TooLong = codes "error 5\n"
