-- One script, one text of logs.
use Rattle.std.specs.Prelude.{◌≡◌, ℕ, List}
use Rattle.report_io.specs.declared.status.Status.{Status}
use Rattle.reopen_script.specs.Laws.{BeginsWithNone}
use Rattle.tree_engine.specs.declared.tree.TreeOutput.TheVariants.{Logs}
use Rattle.tree_engine.specs.Reports.{IsTreeReport}

-- what is written with the logs asked for, of an input without logs ahead of its events, is one text and one
-- status: of a script whose events were all made its tree and the log of each process, byte for byte; of one
-- that was refused an event the trace up to there; of any other input the line of its fault
abbrev pub LogsHaveOneText : Type 0
LogsHaveOneText = (status other : Status) (input text second : List ℕ) → BeginsWithNone input
    → IsTreeReport Logs status input text → IsTreeReport Logs other input second
    → (other ≡ status) × (second ≡ text)
