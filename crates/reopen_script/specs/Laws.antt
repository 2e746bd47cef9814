-- The laws of scripts that may begin with logs.
use Rattle.std.specs.Prelude.{◌≡◌, ℕ, false, List, None}
use Rattle.std.specs.List.{list_any}
use Rattle.protocol.specs.declared.events.Event.{Event}
use Rattle.protocol.specs.declared.trees.TreeProcess.{TreeProcess}
use Rattle.tree_script.specs.declared.script.ScriptFault.{ScriptFault}
use Rattle.tree_script.specs.Inputs.{IsTreeFront, IsScript, IsScriptFault}
use Rattle.reopen_script.specs.Ahead.{ahead_in, is_log}
use Rattle.reopen_script.specs.Inputs.{IsReopenFault, IsReopenScript}

-- no line ahead of the events begins with the word `log`
abbrev pub BeginsWithNone : List ℕ → Type 0
BeginsWithNone bytes =
    (tree : List TreeProcess) (rule : ℕ) (lines : List (List ℕ)) → IsTreeFront bytes tree rule lines
    → list_any is_log (ahead_in lines) ≡ false

-- a script without logs is a script, of the same tree and events, and the other way round
pub record ScriptsAreThese : Type 0 where
  pub here : (bytes : List ℕ) (tree : List TreeProcess) (events : List Event) → IsScript bytes tree events
      → IsReopenScript bytes tree None events
  pub there : (bytes : List ℕ) (tree : List TreeProcess) (events : List Event)
      → IsReopenScript bytes tree None events → IsScript bytes tree events

-- where no line ahead of the events begins with the word `log`, what is wrong is the same, by the same number
pub record FaultsAreThese : Type 0 where
  pub here : (bytes : List ℕ) (fault : ScriptFault) → BeginsWithNone bytes → IsScriptFault bytes fault
      → IsReopenFault bytes fault
  pub there : (bytes : List ℕ) (fault : ScriptFault) → BeginsWithNone bytes → IsReopenFault bytes fault
      → IsScriptFault bytes fault
