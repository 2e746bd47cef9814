use Rattle.tree_faults.specs.Traces.{trace_by}
use Rattle.tree_faults.proofs.Traced.{applied_traced, stays_traced}
use Rattle.tree_world.specs.Worlds.{running_state}
use Rattle.tree_world.proofs.Modelled.{applied_from, applied_since, applied_tree, is_tree_of, kept_headline, stays_kept}
use Rattle.tree_world.proofs.world.World.apply.Goals as goal

pub make-requires : goal.make-requires
make-requires g c = c.self.invariant.places

pub invariant_of-self : goal.invariant_of-self
invariant_of-self g c =
    let b = c.self.inside.reopened in
    let old = running_state c.self.inside.running in
    let new = running_state c.make.new.self in
    let before = c.self.inside.running.faults in
    let behind = c.make.new.self.faults in
    let is_tree = is_tree_of b old c.self.invariant.run in
    record {
      run = stays_kept b old new c.self.invariant.run
          (applied_tree old new c.args.event c.make.result c.make.ensures.ok c.make.ensures.err)
          (applied_from old new c.args.event c.make.result is_tree c.make.ensures.ok c.make.ensures.err);
      trace = stays_traced b old new (trace_by old before) (trace_by new behind) c.self.invariant.trace
          (applied_traced old new before behind is_tree c.args.event c.make.result c.make.ensures.ok
          c.make.ensures.err
          c.make.ensures.adds c.make.ensures.until);
      places = c.make.ensures.places;
    }

pub returns-clause-goes_on : goal.returns-clause-goes_on
returns-clause-goes_on g c =
    let old = running_state c.self.inside.running in
    rw (← c.self.view_is) (λ es w f.
    (applied_from old (running_state c.make.new.self) c.args.event c.make.result
    (is_tree_of c.self.inside.reopened old c.self.invariant.run) c.make.ensures.ok c.make.ensures.err es
    w f).goes_on_so)

pub returns-clause-goes_on_since : goal.returns-clause-goes_on_since
returns-clause-goes_on_since g c =
    let old = running_state c.self.inside.running in
    rw (← c.self.view_is) (applied_since old (running_state c.make.new.self) c.args.event c.make.result
    (is_tree_of c.self.inside.reopened old c.self.invariant.run) c.make.ensures.ok c.make.ensures.err)

pub returns-clause-traced : goal.returns-clause-traced
returns-clause-traced g c =
    let old = running_state c.self.inside.running in
    rw (← c.self.view_is) (applied_traced old (running_state c.make.new.self) c.self.inside.running.faults
    c.make.new.self.faults (is_tree_of c.self.inside.reopened old c.self.invariant.run)
    c.args.event c.make.result
    c.make.ensures.ok c.make.ensures.err c.make.ensures.adds c.make.ensures.until)

pub returns-clause-headline : goal.returns-clause-headline
returns-clause-headline g c =
    rw (← c.self.view_is)
    (kept_headline c.self.inside.reopened (running_state c.make.new.self) (invariant_of-self g c).run)
