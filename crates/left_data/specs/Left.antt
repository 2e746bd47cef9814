-- The data that a script leaves.
use Rattle.std.specs.Prelude.{◌≡◌, ◌⊎◌, ℕ, Option, List}
use Rattle.protocol.specs.declared.events.Event.{Event}
use Rattle.protocol.specs.declared.names.ProcessId.{ProcessId}
use Rattle.protocol.specs.declared.trees.TreeProcess.{TreeProcess}
use Rattle.tree_script.specs.declared.script.ScriptError.TheVariants.{Fault}
use Rattle.tree_script.specs.declared.script.ScriptFault.{ScriptFault}
use Rattle.log_script.specs.declared.line.ProcessLog.{ProcessLog}
use Rattle.reopen_script.specs.Inputs.{IsReopenError, IsReopenScript}
use Rattle.tree_world.specs.Worlds.{logs_at, state}
use Rattle.tree_engine.specs.declared.run.Run.{Run}
use Rattle.tree_engine.specs.Runs.{BeginsBy, HasCome, IsDamageBy}
use Rattle.left_data.specs.Texts.{data_lines}

-- these events led the run to one in which the managers hold this
pub record LeavesFrom (first : Run) (events : List Event) (text : List ℕ) : Type 0 where
  pub end : Run
  pub come : HasCome (state first.world) events end
  pub is : text ≡ data_lines (state end.world).tree (logs_at (state end.world) (state end.world).tree)

-- the input is a script of a tree, over these logs or over empty ones, and its events leave this
pub record LeavesData (input text : List ℕ) : Type 0 where
  pub tree : List TreeProcess
  pub logs : Option (List ProcessLog)
  pub events : List Event
  pub script : IsReopenScript input tree logs events
  pub first : Run
  pub begins : BeginsBy tree logs first
  pub leaves : LeavesFrom first events text

-- the input is a script of a tree and of logs, one of which is damaged there
pub record HasDamage (input : List ℕ) : Type 0 where
  pub tree : List TreeProcess
  pub logs : Option (List ProcessLog)
  pub events : List Event
  pub script : IsReopenScript input tree logs events
  pub process : ProcessId
  pub place : ℕ
  pub damaged : IsDamageBy tree logs process place

-- the input is no script, or one of the logs that it begins with is damaged
abbrev pub HasNoData : List ℕ → Type 0
HasNoData input = ((fault : ScriptFault) × IsReopenError input (Fault fault)) ⊎ HasDamage input
