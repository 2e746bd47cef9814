-- What the logs of a tree say of its cases.
use Rattle.std.specs.Prelude.{◌≡◌, ℕ, Bool, true, false, not, Some, List, map, filter}
use Rattle.std.specs.List.{list_any}
use Rattle.protocol.specs.Names.{same_case}
use Rattle.protocol.specs.declared.names.Case.{Case}
use Rattle.protocol.specs.declared.names.ProcessId.{ProcessId}
use Rattle.protocol.specs.declared.events.Act.TheVariants.{Ask}
use Rattle.protocol.specs.declared.events.Event.{Event}
use Rattle.protocol.specs.declared.events.Event.TheVariants.{Act}
use Rattle.log_script.specs.declared.line.ProcessLog.{ProcessLog}
use Rattle.log_script.specs.Faults.{first_damage}
use Rattle.audit_cases.specs.declared.kinds.Own.{Own}
use Rattle.audit_cases.specs.declared.kinds.Own.TheVariants.{InDoubt}
use Rattle.audit_tree.specs.Reports.{IsReportOfLogs}
use Rattle.audit_tree.specs.declared.report.ReportLine.{ReportLine}
use Rattle.audit_tree.specs.declared.report.Report.{Report}
use Rattle.tree_state.specs.Worlds.{WorldState}
use Rattle.tree_world.specs.LogsLeft.{AreLogs}

-- the report of an audit of the logs that the processes of a tree keep, none of which is damaged
pub record Audits (w : WorldState) (r : Report) : Type 0 where
  pub logs : List ProcessLog
  pub are : AreLogs w w.tree logs
  pub says : IsReportOfLogs w.tree logs r

-- of the logs that the processes of a tree keep this one is damaged, the first in the order of the tree
pub record IsDamagedThen (w : WorldState) (process : ProcessId) (place : ℕ) : Type 0 where
  pub logs : List ProcessLog
  pub are : AreLogs w w.tree logs
  pub first : first_damage w.tree logs ≡ Some (process, place)

-- by its own records a case is in doubt
abbrev pub stands_in_doubt : Own → Bool
stands_in_doubt InDoubt = true
stands_in_doubt _ = false

-- the cases in doubt, in the order of the lines
abbrev pub doubts_in : List ReportLine → List Case
doubts_in ls = map (λ l. l.case) (filter (λ l. stands_in_doubt l.own) ls)

-- the cases that show a mismatch, in the order of the lines
abbrev pub mismatched_in : List ReportLine → List Case
mismatched_in ls = map (λ l. l.case) (filter (λ l. l.mismatch) ls)

-- those of these cases that are not among the known ones, in order
abbrev pub beyond : List Case → List Case → List Case
beyond known cs = filter (λ c. not (list_any (λ k. same_case k c) known)) cs

-- the questions for these cases
abbrev pub asks_for : List Case → List Event
asks_for cs = map (λ c. Act (Ask c)) cs

-- the questions for all cases that an audit shows in doubt
abbrev pub asks_by : Report → List Event
asks_by r = asks_for (doubts_in r.lines.items)
