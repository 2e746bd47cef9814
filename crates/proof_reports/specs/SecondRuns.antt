-- Runs that the second version makes alone, from the opened tree on: what their Ends report.
use Rattle.std.specs.Prelude.{◌≡◌, List, [], ◌∷◌}
use Rattle.protocol.specs.declared.trees.TreeProcess.{TreeProcess}
use Rattle.protocol.specs.Nodes.{Second, Version}
use Rattle.protocol.specs.Trees.{IsTree}
use Rattle.protocol.specs.World.{IsRun, Made, World, makes, opens}
use Rattle.proof_reports.specs.Mismatches.{EndsReportTruly}
use Rattle.protocol.specs.World.{AllBy}

-- each End that the root appends in a move of the run reports truly, in the world that the move leaves
abbrev pub EndsReported : (tree : List TreeProcess) (es : List Made) (w : World) → IsRun tree es w → Type 0
EndsReported tree _ _ opens = Unit {0}
EndsReported tree _ _ (makes es w m e w' run stands made) =
    EndsReportTruly tree (record { move = m; effect = e }) w' × EndsReported tree es w run

-- reported mismatches: of every run that the second version makes alone, whatever the numbers under which its
-- messages come
abbrev pub SecondRunsReport : Type 0
SecondRunsReport = (tree : List TreeProcess) (es : List Made) (w : World) → IsTree tree
    → (run : IsRun tree es w) → AllBy Second es → EndsReported tree es w run
