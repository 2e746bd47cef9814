use Rattle.std.proofs.Common.{[], length, refl}
use Rattle.std.proofs.lemmas.Option.{slice_get_read}
use Rattle.tree_faults.proofs.Adding.{adds_nothing, adds_then, until_after}
use Rattle.tree_world.specs.Worlds.{running_state}
use Rattle.tree_world.proofs.Running.{run_goes_on, run_ends}
use Rattle.tree_world.proofs.running_tree.RunningTree.make_all.Goals as goal

pub loop-made-preserved : goal.loop-made-preserved
loop-made-preserved g c = (
  run_goes_on (running_state c.args.self.now) (running_state c.loop-made.self)
      (running_state c.make_copy.new.self) c.args.events.now
      c.loop-made.made c.index-events-made.result c.loop-made-test.true c.index-events-made.is
      c.loop-made.invariant.0 c.in_default.ensures.ok,
  c.make_copy.ensures.places,
  adds_then (running_state c.args.self.now) (running_state c.loop-made.self)
      (running_state c.make_copy.new.self)
      c.args.self.now.faults c.loop-made.self.faults c.make_copy.new.self.faults [] c.loop-made.invariant.2
      c.in_default.ensures.adds,
)

pub returns-clause-ok : goal.returns-clause-ok
returns-clause-ok g c =
    run_ends (running_state c.args.self.now) (running_state c.loop-made.self)
    c.args.events.now c.loop-made.made
    c.loop-made-test.false c.loop-made.invariant.0

pub make_copy-requires : goal.make_copy-requires
make_copy-requires g c = c.loop-made.invariant.1

pub loop-made-init : goal.loop-made-init
loop-made-init g c = (
  refl,
  c.requires,
  adds_nothing (running_state c.args.self.now) c.args.self.now.faults
      c.args.self.now.faults refl,
)

pub returns-in-Err-clause-until : goal.returns-in-Err-clause-until
returns-in-Err-clause-until g c =
    until_after (running_state c.args.self.now) (running_state c.loop-made.self)
    (running_state c.make_copy.new.self)
    c.args.self.now.faults c.loop-made.self.faults c.make_copy.new.self.faults c.args.events.now
    c.loop-made.made
    c.index-events-made.result c.in-Err.refusal
    (slice_get_read c.args.events.now (length c.args.events.now) c.loop-made.made
    c.index-events-made.result refl
    c.loop-made-test.true c.index-events-made.is) c.loop-made.invariant.0 c.loop-made.invariant.2
    c.in-Err.ensures.until
