-- What is written if no log is told of: one is damaged, or the input is refused.
use Rattle.std.specs.Prelude.{◌≡◌, ℕ, List, Some}
use Rattle.protocol.specs.declared.names.ProcessId.{ProcessId}
use Rattle.protocol.specs.declared.trees.TreeProcess.{TreeProcess}
use Rattle.tree_script.specs.declared.script.ScriptFault.{ScriptFault}
use Rattle.log_script.specs.declared.line.ProcessLog.{ProcessLog}
use Rattle.log_script.specs.Logs.{IsLogsFault}
use Rattle.log_script.specs.Faults.{damage_text, fault_text, first_damage}

-- the text is the line of the first log that is damaged
abbrev pub TellsDamage : List TreeProcess → List ProcessLog → List ℕ → Type 0
TellsDamage tree logs text =
    (q : ProcessId) × (place : ℕ) × (first_damage tree logs ≡ Some (q, place)) × (text ≡ damage_text q place)

-- the text is the line of the fault that is there
pub record RefusesLogText (input text : List ℕ) : Type 0 where
  pub fault : ScriptFault
  pub there : IsLogsFault input fault
  pub line : text ≡ fault_text fault
