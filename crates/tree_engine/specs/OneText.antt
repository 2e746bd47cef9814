-- One input, one text.
use Rattle.std.specs.Prelude.{◌≡◌, ⊤, ℕ, List}
use Rattle.report_io.specs.declared.status.Status.{Status}
use Rattle.tree_engine.specs.declared.tree.TreeOutput.{TreeOutput}
use Rattle.tree_engine.specs.declared.tree.TreeOutput.TheVariants.{Counts, Trace}
use Rattle.reopen_script.specs.Laws.{BeginsWithNone}
use Rattle.tree_engine.specs.Reports.{IsTreeReport}

-- what is written is the trace, or the trace with the counts after it
abbrev pub IsTrace : TreeOutput → Type 0
IsTrace Trace = ⊤
IsTrace Counts = ⊤
IsTrace _ = ⊥

-- what is written of an input without logs ahead of its events is one text and one status: of a script the
-- trace of its run, with the counts or without; of any other input the line of its fault
abbrev pub InputsHaveOneText : Type 0
InputsHaveOneText = (output : TreeOutput) (status other : Status) (input text second : List ℕ)
    → IsTrace output
    → BeginsWithNone input
    → IsTreeReport output status input text → IsTreeReport output other input second
    → (other ≡ status) × (second ≡ text)
