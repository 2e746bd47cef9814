-- When the state of a tree that was opened over the logs of an earlier run stands for that run and what was
-- made since.
use Rattle.std.specs.Prelude.{◌≡◌, is_some, Some, List, ◌++◌}
use Rattle.protocol.specs.declared.names.ProcessId.{ProcessId}
use Rattle.protocol.specs.Nodes.{is_listed}
use Rattle.protocol.specs.Outcomes.{Headline}
use Rattle.protocol.specs.World.{Continues, IsRun, Made, World}
use Rattle.process_state.specs.States.{CoreState}
use Rattle.tree_state.specs.Worlds.{WorldState}
use Rattle.proof_runs.specs.worlds.Follows.{StandsAt, entered_of}
use Rattle.proof_reopened.specs.Earlier.{Earlier, IsEarlier, IsSince, SinceReported}

-- The state stands for the earlier run and these moves after it, in which devices may have failed: its
-- messages are those that were sent since, its journal has the moves made since but for those in which a
-- device failed, and each process stands for the model's.
pub record FollowsSince (o : Earlier) (es : List Made) (w : World) (s : WorldState) : Type 0 where
  pub earlier : IsEarlier s.tree o
  pub since : IsSince s.tree o es s.net w
  pub shown : entered_of es ≡ s.entries
  pub nodes : (q : ProcessId) (c : CoreState) → s.node_at q ≡ Some c → StandsAt w s q c
  pub listed : (q : ProcessId) → is_some (s.node_at q) ≡ is_listed s.tree q

-- it stands for a run that goes on from these moves
pub record GoesOnSince (o : Earlier) (es : List Made) (w : World) (s : WorldState) : Type 0 where
  pub later : List Made
  pub world : World
  pub leads : Continues s.tree w later world
  pub follows : FollowsSince o (later ++ es) world s

-- Both parts are one run, the headline holds of it, and each End of the root in the later part reports
-- mismatches truly.
pub record KeepsBoth (o : Earlier) (es : List Made) (w : World) (s : WorldState)
    (f : FollowsSince o es w s) : Type 0 where
  pub is_run : IsRun s.tree (es ++ o.moves) w
  pub headline : Headline s.tree (es ++ o.moves) w
  pub mismatches_are_reported : SinceReported s.tree o es s.net w f.since

-- it stands for a run that goes on from these moves, and both parts of it keep all that
pub record GoesOnKeeping (o : Earlier) (es : List Made) (w : World) (s : WorldState) : Type 0 where
  pub goes_on : GoesOnSince o es w s
  pub keeps : KeepsBoth o (goes_on.later ++ es) goes_on.world s goes_on.follows
