-- That no log which a run leaves is damaged.
use Rattle.std.specs.Prelude.{◌≡◌, List, None}
use Rattle.protocol.specs.declared.events.Event.{Event}
use Rattle.protocol.specs.declared.trees.TreeProcess.{TreeProcess}
use Rattle.protocol.specs.Trees.{IsTree}
use Rattle.protocol.specs.World.{Made, World}
use Rattle.log_script.specs.declared.line.ProcessLog.{ProcessLog}
use Rattle.log_script.specs.Faults.{first_damage}
use Rattle.tree_state.specs.Runs.{IsOpenedTree, EventsLead}
use Rattle.proof_runs.specs.worlds.Follows.{Follows}
use Rattle.tree_state.specs.Worlds.{WorldState}
use Rattle.tree_world.specs.LogsLeft.{AreLogs, LogsStand}

-- Where events led a tree, opened, to a state that stands for a run, none of the logs that its processes keep
-- then is damaged.
abbrev pub LeftLogsAreRead : Type 0
LeftLogsAreRead = (tree : List TreeProcess) (events : List Event) (start end : WorldState)
    (es : List Made) (w : World)
    (logs : List ProcessLog) → IsTree end.tree → IsOpenedTree start tree → EventsLead start events end
    → Follows es w end
    → AreLogs end end.tree logs → LogsStand end end.tree → first_damage end.tree logs ≡ None
