-- The logs that a run leaves.
use Rattle.std.specs.Prelude.{◌≡◌, ℕ, List}
use Rattle.log_script.specs.declared.line.ProcessLog.{ProcessLog}
use Rattle.log_script.specs.Trees.{logs_text}
use Rattle.tree_state.specs.Worlds.{WorldState}
use Rattle.tree_world.specs.LogsLeft.{AreByteLogs, AreLogs, LogsStand}

-- the text is that of the tree and of the log of each process, each of bytes; and each record can be in its
-- log, and a manager's may follow one another
pub record LeavesLogs (w : WorldState) (text : List ℕ) : Type 0 where
  pub logs : List ProcessLog
  pub are : AreLogs w w.tree logs
  pub bytes : AreByteLogs logs
  pub stand : LogsStand w w.tree
  pub is : text ≡ logs_text w.tree logs
