use Rattle.tree_faults.specs.Traces.{trace_by}
use Rattle.tree_faults.proofs.Traced.{ran_traced, stays_traced}
use Rattle.tree_world.specs.Worlds.{running_state}
use Rattle.tree_world.proofs.Modelled.{ran_from, ran_since, ran_tree, is_tree_of, kept_headline, stays_kept}
use Rattle.tree_world.proofs.world.World.run.Goals as goal

pub make_all-requires : goal.make_all-requires
make_all-requires g c = c.self.invariant.places

pub invariant_of-self : goal.invariant_of-self
invariant_of-self g c =
    let b = c.self.inside.reopened in
    let old = running_state c.self.inside.running in
    let new = running_state c.make_all.new.self in
    let before = c.self.inside.running.faults in
    let behind = c.make_all.new.self.faults in
    let is_tree = is_tree_of b old c.self.invariant.run in
    record {
      run = stays_kept b old new c.self.invariant.run
          (ran_tree old new c.args.events.now c.make_all.result c.make_all.ensures.ok c.make_all.ensures.err)
          (ran_from old new c.args.events.now c.make_all.result is_tree c.make_all.ensures.ok
          c.make_all.ensures.err);
      trace = stays_traced b old new (trace_by old before) (trace_by new behind) c.self.invariant.trace
          (ran_traced old new before behind is_tree c.args.events.now c.make_all.result c.make_all.ensures.ok
          c.make_all.ensures.err c.make_all.ensures.adds c.make_all.ensures.until);
      places = c.make_all.ensures.places;
    }

pub returns-clause-goes_on : goal.returns-clause-goes_on
returns-clause-goes_on g c =
    let old = running_state c.self.inside.running in
    rw (← c.self.view_is) (λ es w f.
    (ran_from old (running_state c.make_all.new.self) c.args.events.now c.make_all.result
    (is_tree_of c.self.inside.reopened old c.self.invariant.run) c.make_all.ensures.ok c.make_all.ensures.err
    es w f).goes_on_so)

pub returns-clause-goes_on_since : goal.returns-clause-goes_on_since
returns-clause-goes_on_since g c =
    let old = running_state c.self.inside.running in
    rw (← c.self.view_is) (ran_since old (running_state c.make_all.new.self) c.args.events.now
    c.make_all.result
    (is_tree_of c.self.inside.reopened old c.self.invariant.run) c.make_all.ensures.ok c.make_all.ensures.err)

pub returns-clause-traced : goal.returns-clause-traced
returns-clause-traced g c =
    let old = running_state c.self.inside.running in
    rw (← c.self.view_is) (ran_traced old (running_state c.make_all.new.self) c.self.inside.running.faults
    c.make_all.new.self.faults (is_tree_of c.self.inside.reopened old c.self.invariant.run) c.args.events.now
    c.make_all.result c.make_all.ensures.ok c.make_all.ensures.err c.make_all.ensures.adds
    c.make_all.ensures.until)

pub returns-clause-headline : goal.returns-clause-headline
returns-clause-headline g c =
    rw (← c.self.view_is)
    (kept_headline c.self.inside.reopened (running_state c.make_all.new.self) (invariant_of-self g c).run)
