-- The logs that the processes of a tree keep, as bytes.
use Rattle.std.specs.Prelude.{◌≡◌, ◌<◌, All, Option, Some, None, List, [], ◌∷◌}
use Rattle.std.specs.List.{AllByRecursion}
use Rattle.protocol.specs.declared.trees.TreeProcess.{TreeProcess}
use Rattle.log_script.specs.declared.line.ProcessLog.{ProcessLog}
use Rattle.process_state.specs.States.{CoreState}
use Rattle.tree_state.specs.Worlds.{WorldState}
use Rattle.tree_process.specs.Nodes.{LogStands}
use Rattle.tree_world.specs.Nodes.{SpellsLogBy}

-- for each of these processes, in order, one log, whose bytes read as what the process keeps
abbrev pub AreLogs : WorldState → List TreeProcess → List ProcessLog → Type 0
AreLogs w [] [] = Unit {0}
AreLogs w [] (l ∷ ls) = ⊥
AreLogs w (e ∷ es) [] = ⊥
AreLogs w (e ∷ es) (l ∷ ls) = (l.process ≡ e.id) × SpellsLogBy (w.node_at e.id) l.bytes × AreLogs w es ls

-- each number in these logs is a byte
abbrev pub AreByteLogs : List ProcessLog → Type 0
AreByteLogs logs = AllByRecursion (λ l. All (λ b. b < 256) l.bytes) logs

-- each record of a process, if there is one, can be in its log, and a manager's may follow one another
abbrev pub LogStandsBy : Option CoreState → Type 0
LogStandsBy None = Unit {0}
LogStandsBy (Some s) = LogStands s

-- so it is of each of these processes
abbrev pub LogsStand : WorldState → List TreeProcess → Type 0
LogsStand w es = AllByRecursion (λ e. LogStandsBy (w.node_at e.id)) es
