use Rattle.std.proofs.Common.{refl}
use Rattle.tree_process.specs.Nodes.{core_of, data_of}
use Rattle.cluster_process.proofs.Turning.{first_of, further_none, further_one, further_rests, popped, rest_of}
use Rattle.cluster_process.proofs.making.make_next.Goals as goal

pub returns-in_default-clause-further : goal.returns-in_default-clause-further
returns-in_default-clause-further g c =
    further_none g.N.Seats.tree c.args.seat.now.me.0.process.net c.args.me c.args.caller
    c.args.made.now.turn.entries
    (core_of c.args.node.now) (data_of c.args.node.now)

pub returns-in_default-make_it-clause-rest : goal.returns-in_default-make_it-clause-rest
returns-in_default-make_it-clause-rest g c =
    rest_of c.args.seat.now.me.0.process.net c.args.me _ _ _ c.requires.deliveries
    (popped _ _ _ _ c.pop_front.ensures.items c.in-Some.is)

pub returns-in_default-make_it-clause-further : goal.returns-in_default-make_it-clause-further
returns-in_default-make_it-clause-further g c =
    further_rests g.N.Seats.tree c.args.seat.now.me.0.process.net c.args.me c.args.caller
    c.args.made.now.turn.entries
    (core_of c.args.node.now) (core_of c.make_it.new.node) (data_of c.args.node.now)
    (data_of c.make_it.new.node)
    c.in_default-make_it.ensures.err.same c.in_default-make_it.ensures.err.rests

pub returns-clause-rest : goal.returns-clause-rest
returns-clause-rest g c =
    rest_of c.args.seat.now.me.0.process.net c.args.me _ _ _ c.requires.deliveries
    (popped _ _ _ _ c.pop_front.ensures.items c.in-Some.is)

pub returns-clause-further : goal.returns-clause-further
returns-clause-further g c =
    let entries = c.args.made.now.turn.entries in
    further_one g.N.Seats.tree c.args.seat.now.me.0.process.net c.args.me c.args.caller entries
    c.push.new.self.entries
    c.in-Some.wanted (record { step = c.in-Some.wanted.step; reaction = c.in-Ok.reaction })
    (core_of c.args.node.now) (core_of c.make_it.new.node) (data_of c.args.node.now)
    (data_of c.make_it.new.node)
    0
    c.push.ensures.entries refl
    (first_of c.args.seat.now.me.0.process.net c.args.me _ _ _ c.requires.deliveries
    (popped _ _ _ _ c.pop_front.ensures.items c.in-Some.is))
    c.in-Ok.ensures.ok
