-- What is written of a tree and its logs.
use Rattle.std.specs.Prelude.{◌≡◌, ℕ, List, None}
use Rattle.std.specs.List.{flat_map}
use Rattle.protocol.specs.declared.trees.TreeProcess.{TreeProcess}
use Rattle.log_script.specs.declared.line.ProcessLog.{ProcessLog}
use Rattle.log_script.specs.Logs.{IsLogsText, bytes_of}
use Rattle.log_text.specs.Forms.{form_in}
use Rattle.report_io.specs.declared.status.Status.{Status}
use Rattle.report_io.specs.declared.status.Status.TheVariants.{Ended, Refused, Stopped}
use Rattle.log_script.specs.Refusals.{RefusesLogText, TellsDamage}
use Rattle.log_script.specs.Faults.{first_damage}
use Rattle.log_lines.specs.Held.{held_text}

-- what the logs of these processes hold
unfoldable pub shown_text : List TreeProcess → List ProcessLog → List ℕ
shown_text es logs =
    flat_map (λ e. held_text (form_in (bytes_of logs e.id) e.id e.kind) (bytes_of logs e.id)) es

-- what is written of logs that were read, by whether one is damaged
abbrev pub IsShown : Status → List TreeProcess → List ProcessLog → List ℕ → Type 0
IsShown Ended es logs text = (first_damage es logs ≡ None) × (text ≡ shown_text es logs)
IsShown Refused es logs text = TellsDamage es logs text
IsShown Stopped es logs text = ⊥

-- the text is that of the tree and the logs that the input says
pub record ShowsLogs (status : Status) (input text : List ℕ) : Type 0 where
  pub tree : List TreeProcess
  pub logs : List ProcessLog
  pub says : IsLogsText input tree logs
  pub shows : IsShown status tree logs text

-- a damaged log is shown, or the input is refused
pub data IsLogRefusal (input text : List ℕ) : Type 0 where
  OfLog : ShowsLogs Refused input text → IsLogRefusal input text
  OfInput : RefusesLogText input text → IsLogRefusal input text

-- what is written of an input, by how the run ends
abbrev pub IsLogReport : Status → List ℕ → List ℕ → Type 0
IsLogReport Ended input text = ShowsLogs Ended input text
IsLogReport Refused input text = IsLogRefusal input text
IsLogReport Stopped input text = ⊥
