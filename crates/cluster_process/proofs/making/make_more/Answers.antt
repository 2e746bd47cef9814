use Rattle.tree_process.specs.Nodes.{core_of, data_of}
use Rattle.cluster_process.proofs.Turning.{further_none, further_on}
use Rattle.cluster_process.proofs.making.make_more.Goals as goal

pub loop-init : goal.loop-init
loop-init g c = record {
  further = further_none g.N.Seats.tree c.args.seat.now.me.0.process.net c.args.me c.args.caller
      c.args.made.now.turn.entries
      (core_of c.args.node.now) (data_of c.args.node.now);
  room = c.requires.room;
  deliveries = c.requires.deliveries;
}

pub loop-preserved : goal.loop-preserved
loop-preserved g c = record {
  further = further_on g.N.Seats.tree c.args.seat.now.me.0.process.net c.args.me c.args.caller
      _ _ _ _ _ _ _ _ _
      c.loop.invariant.further c.make_next.ensures.further;
  room = c.make_next.ensures.room;
  deliveries = c.make_next.ensures.rest;
}

pub returns-then-not-make_next : goal.returns-then-not-make_next
returns-then-not-make_next g c =
    further_on g.N.Seats.tree c.args.seat.now.me.0.process.net c.args.me c.args.caller _ _ _ _ _ _ _ _ _
    c.loop.invariant.further c.make_next.ensures.further
