-- A wrong body, at work in a world that a run reaches: what its step makes of that world, and what comes of
-- it.
use Rattle.std.specs.Prelude.{◌≡◌, List, [], ◌++◌, fold}
use Rattle.protocol.specs.declared.names.ProcessId.{ProcessId}
use Rattle.protocol.specs.declared.messages.Envelope.{Envelope}
use Rattle.protocol.specs.declared.events.Happening.{Happening}
use Rattle.protocol.specs.declared.trees.TreeProcess.{TreeProcess}
use Rattle.protocol.specs.Nodes.{Node}
use Rattle.protocol.specs.Outcomes.{Headline}
use Rattle.protocol.specs.Plays.{Play, Player, Played, Goes, plays_all, plays_on}
use Rattle.protocol.specs.Rows.{process}
use Rattle.protocol.specs.Trees.{IsTree}
use Rattle.protocol.specs.World.{World, Made, IsRun, Continues, MayHappen, put_at}
use Rattle.proof_processes.specs.WorldHolds.{WorldHolds}

-- a wrong step
pub record WrongStep : Type 0 where
  -- the tree, and the events of a run of it
  pub tree : List TreeProcess
  pub events : List Play
  -- what happens next, at which process, what the wrong body leaves of that process, and what it sends
  pub process : ProcessId
  pub happening : Happening
  pub leaves : Node → Node
  pub sends : List Envelope
  -- what happens after the step
  pub behind : List Play

-- the world that the wrong step leaves: nothing but the one process and the net is changed
abbrev pub wrongly_left : WrongStep → World → World
wrongly_left s w = record { at = put_at s.process (s.leaves (w.at s.process)) w.at; net = w.net ++ s.sends }

-- The list is a tree, none of the events is refused, and they are a run; what happens next is in the
-- net, where it is a message; and the world after the wrong step does not have the invariant any more.
pub record Breaks (s : WrongStep) : Type 0 where
  pub player : Player
  pub played_out : plays_all s.tree (process 1) s.events ≡ Goes player
  pub is_tree : IsTree s.tree
  pub is_run : IsRun s.tree player.moves player.world
  pub stands : MayHappen player.world.net s.process s.happening
  pub breaks : WorldHolds s.tree (wrongly_left s player.world) → ⊥

-- a world from which a run goes on
abbrev pub player_at : World → Player
player_at w = record { world = w; moves = []; delivered = [] }

-- the events after the wrong step, each of them handled as is right
abbrev pub plays_behind : WrongStep → World → Played
plays_behind s w = fold (plays_on s.tree (process 1)) (Goes (player_at (wrongly_left s w))) s.behind

-- After the wrong step of a run, right steps lead to a world that does not have the headline, whatever the
-- moves.
pub record Harms (s : WrongStep) : Type 0 where
  pub player : Player
  pub later : Player
  pub played_out : plays_all s.tree (process 1) s.events ≡ Goes player
  pub is_run : IsRun s.tree player.moves player.world
  pub played_on : plays_behind s player.world ≡ Goes later
  pub continues : Continues s.tree (wrongly_left s player.world) later.moves later.world
  pub harms : (es : List Made) → Headline s.tree es later.world → ⊥
