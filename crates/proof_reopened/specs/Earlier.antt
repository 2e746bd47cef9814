-- A run that was before a tree was opened over the logs which it left, and the moves made since.
use Rattle.std.specs.Prelude.{◌≡◌, Some, List, [], ◌∷◌, ◌++◌}
use Rattle.protocol.specs.declared.messages.Envelope.{Envelope}
use Rattle.protocol.specs.declared.trees.TreeProcess.{TreeProcess}
use Rattle.protocol.specs.Nodes.{Effect}
use Rattle.protocol.specs.World.{IsDown, IsRun, Made, Move, MayHappen, World, world_makes}
use Rattle.proof_reports.specs.Mismatches.{EndsReportTruly}
use Rattle.process_state.specs.Turns.{this_version}

-- the moves of the earlier run, the newest first, whichever version made each, and the world that they came
-- to
pub record Earlier : Type 0 where
  pub moves : List Made
  pub world : World

-- it is a run, at the end of which every process is down
pub record IsEarlier (tree : List TreeProcess) (o : Earlier) : Type 0 where
  pub is_run : IsRun tree o.moves o.world
  pub down : IsDown tree o.world

-- The moves that were made since, the newest first, and the messages that were sent in them. Each was made by
-- the version that processes have now, and each message that was delivered was sent since, under whatever
-- number.
pub data IsSince (tree : List TreeProcess) (o : Earlier) : List Made → List Envelope → World → Type 0 where
  opens_over : IsSince tree o [] [] o.world
  then_makes : (es : List Made) (sent : List Envelope) (w : World) (m : Move) (e : Effect) (w' : World)
      → IsSince tree o es sent w
      → m.version ≡ this_version
      → MayHappen sent m.step.process m.step.happening
      → world_makes tree w m ≡ Some (e, w')
      → IsSince tree o (record { move = m; effect = e } ∷ es) (sent ++ e.messages) w'

-- each End that the root appended in one of them reports truly, in the world that its move left
abbrev pub SinceReported : (tree : List TreeProcess) (o : Earlier) (es : List Made)
    (sent : List Envelope) (w : World)
    → IsSince tree o es sent w → Type 0
SinceReported tree o _ _ _ opens_over = Unit {0}
SinceReported tree o _ _ _ (then_makes es sent w m e w' since by stands made) =
    EndsReportTruly tree (record { move = m; effect = e }) w' × SinceReported tree o es sent w since
