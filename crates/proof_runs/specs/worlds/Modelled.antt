-- A tree's state that stands for a run of the model, in which devices may have failed.
use Rattle.std.specs.Prelude.{List}
use Rattle.protocol.specs.Outcomes.{Headline}
use Rattle.protocol.specs.Trees.{IsTree}
use Rattle.protocol.specs.World.{Made, World}
use Rattle.proof_reports.specs.SecondRuns.{EndsReported}
use Rattle.tree_state.specs.Worlds.{WorldState}
use Rattle.proof_runs.specs.worlds.Follows.{FollowsBehindFaults}

-- the state stands for a run in which devices may have failed
pub record StandsForRun (s : WorldState) : Type 0 where
  pub moves : List Made
  pub world : World
  pub follows : FollowsBehindFaults moves world s

-- it stands for such a run; of this run the headline holds, and each End of the root in it reports mismatches
-- truly
pub record KeepsHeadline (s : WorldState) : Type 0 where
  pub run : StandsForRun s
  pub headline : Headline s.tree run.moves run.world
  pub mismatches_are_reported : EndsReported s.tree run.moves run.world run.follows.follows.is_run

-- the processes are a tree, and its state stands for such a run
pub record IsModelledTree (s : WorldState) : Type 0 where
  pub is_tree : IsTree s.tree
  pub run : StandsForRun s

-- a tree's state that stands for such a run keeps the headline
abbrev pub ModelledTreesKeepHeadline : Type 0
ModelledTreesKeepHeadline = (s : WorldState) → IsModelledTree s → KeepsHeadline s
