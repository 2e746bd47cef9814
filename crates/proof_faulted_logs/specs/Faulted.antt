-- The logs that a tree leaves in whose run devices failed.
use Rattle.std.specs.Prelude.{List}
use Rattle.protocol.specs.Trees.{IsTree}
use Rattle.protocol.specs.World.{Made, World}
use Rattle.log_script.specs.declared.line.ProcessLog.{ProcessLog}
use Rattle.proof_runs.specs.worlds.Follows.{FollowsBehindFaults}
use Rattle.tree_state.specs.Worlds.{WorldState}
use Rattle.tree_world.specs.LogsLeft.{AreLogs, LogsStand}
use Rattle.proof_audits.specs.Audits.{AllWork, AreAuditedTruly}

-- Where the state of a tree stands for a run in which devices may have failed, and no process is failed now,
-- none of the logs that its processes keep is damaged, and their audit is true of that run.
abbrev pub FaultedRunsAreAuditedTruly : Type 0
FaultedRunsAreAuditedTruly = (s : WorldState) (es : List Made) (w : World) → IsTree s.tree
    → FollowsBehindFaults es w s
    → AllWork s → (logs : List ProcessLog) → AreLogs s s.tree logs → LogsStand s s.tree
    → AreAuditedTruly s.tree w logs
