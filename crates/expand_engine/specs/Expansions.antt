-- What a script with other words comes to.
use Rattle.std.specs.Prelude.{ℕ, Option, List}
use Rattle.protocol.specs.declared.events.Event.{Event}
use Rattle.protocol.specs.declared.trees.TreeProcess.{TreeProcess}
use Rattle.log_script.specs.declared.line.ProcessLog.{ProcessLog}
use Rattle.reopen_script.specs.Inputs.{IsReopenScript}

-- the text is a script of specified events, with logs ahead of them or without
pub record IsExpansion (text : List ℕ) : Type 0 where
  pub tree : List TreeProcess
  pub logs : Option (List ProcessLog)
  pub events : List Event
  pub reads : IsReopenScript text tree logs events
