use Rattle.std.proofs.Common.{◌≤◌, All, length}
use Rattle.tree_process.specs.Nodes.{core_of, data_of}
use Rattle.cluster_process.specs.Turns.{GoesFurther, IsDeliveryAt}
use Rattle.cluster_process.proofs.making.make_more.Given as goal

abbrev pub invariant-loop : goal.invariant-loop
invariant-loop g l = record {
  further : GoesFurther g.N.Seats.tree l.seat.me.0.process.net l.me l.caller l.fn.made.turn.entries
      l.made.turn.entries
      (core_of l.fn.node) (core_of l.node) (data_of l.fn.node) (data_of l.node);
  room : length l.more ≤ l.made.turn.more;
  deliveries : All (IsDeliveryAt l.seat.me.0.process.net l.me) l.more;
}
