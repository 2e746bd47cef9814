use Rattle.tree_faults.proofs.Traced.{trace_run}
use Rattle.tree_world.proofs.world.World.trace.Goals as goal

pub trace-requires : goal.trace-requires
trace-requires g c = c.self.invariant.places

pub returns-clause-steps : goal.returns-clause-steps
returns-clause-steps g c = rw (← c.self.view_is) c.trace.ensures

pub returns-clause-run : goal.returns-clause-run
returns-clause-run g c =
    rw (← c.self.view_is) (λ is. trace_run c.self.inside.reopened _ _ c.self.invariant.trace is)
