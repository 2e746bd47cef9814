-- That the lines of an audit of a run's logs are true of the run.
use Rattle.std.specs.Prelude.{◌≡◌, true, List, Contains}
use Rattle.protocol.specs.declared.names.Case.{Case}
use Rattle.protocol.specs.declared.names.Outcome.{Outcome}
use Rattle.protocol.specs.declared.names.ProcessId.{ProcessId}
use Rattle.protocol.specs.declared.trees.TreeProcess.{TreeProcess}
use Rattle.protocol.specs.Names.{process_of}
use Rattle.protocol.specs.Nodes.{is_listed, kept}
use Rattle.protocol.specs.Outcomes.{DecisionStands, Mismatch, outcome_of}
use Rattle.protocol.specs.World.{IsRun, Made, World}
use Rattle.log_script.specs.declared.line.ProcessLog.{ProcessLog}
use Rattle.protocol.specs.Audits.{AllUp, KeptLogs}
use Rattle.audit_tree.specs.Reports.{kept_lists}
use Rattle.audit_tree.specs.declared.report.ReportLine.{ReportLine}

-- these moves are a run of the model to this world, in which no process of the tree is failed, and the list
-- of each listed process is what that process keeps there
pub record AreKeptBehind (tree : List TreeProcess) (es : List Made) (w : World)
    (logs : KeptLogs) : Type 0 where
  pub is_run : IsRun tree es w
  pub all_up : AllUp tree w
  pub kept_there : (q : ProcessId) → is_listed tree q ≡ true → logs q ≡ kept (w.at q)

-- one of these lines is of this case, and shows a mismatch
pub record ShowsOf (lines : List ReportLine) (c : Case) : Type 0 where
  pub line : ReportLine
  pub listed : Contains lines line
  pub case : line.case ≡ c
  pub shows : line.mismatch ≡ true

-- against the outcome of its transaction an operator decided this case, and that decision stands
pub record StandsAgainst (w : World) (c : Case) (o : Outcome) : Type 0 where
  pub mismatch : Mismatch w c o
  pub stands : DecisionStands (w.at (process_of c)) c o

-- In this world each line's outcome is that of its transaction; one that shows a mismatch is of a case that
-- an operator decided against it, which stands; and of each such case a line shows it.
pub record AreTrue (w : World) (lines : List ReportLine) : Type 0 where
  pub outcomes : (l : ReportLine) → Contains lines l → l.outcome ≡ outcome_of w l.case.txn
  pub mismatches_stand : (l : ReportLine) → Contains lines l → l.mismatch ≡ true
      → (o : Outcome) × StandsAgainst w l.case o
  pub standing_mismatches_show : (c : Case) (o : Outcome) → StandsAgainst w c o → ShowsOf lines c

-- whichever run of the model left these logs, with no process failed, the lines are true in its world
abbrev pub AreTrueOfRuns : List TreeProcess → List ProcessLog → List ReportLine → Type 0
AreTrueOfRuns tree logs lines = (es : List Made) (w : World)
    → AreKeptBehind tree es w (kept_lists tree logs) → AreTrue w lines
