use Rattle.std.proofs.Common.{take}
use Rattle.cluster_engine.specs.Made.{AreMade}
use Rattle.cluster_engine.proofs.player.make_all.Given as goal

abbrev pub invariant-loop-made : goal.invariant-loop-made
invariant-loop-made g l = AreMade g.N.Seats.tree (take l.made l.events) l.fn.pass l.pass
