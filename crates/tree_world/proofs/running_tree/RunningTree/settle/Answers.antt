use Rattle.std.proofs.Common.{◌≡◌, ◌∙◌, ap, None, Some, arith, rules}
use Rattle.protocol.specs.declared.events.Event.TheVariants.{Settle}
use Rattle.protocol.specs.declared.events.StepError.TheVariants.{Memory}
use Rattle.tree_state.specs.Worlds.{Stops, least_open}
use Rattle.tree_faults.specs.Faults.{FaultsSight}
use Rattle.tree_faults.specs.Traces.{NotedUntil}
use Rattle.tree_world.specs.Nodes.{kept_at}
use Rattle.tree_world.specs.Worlds.{running_state}
use Rattle.tree_world.proofs.Handling.{no_success, passed_on, stays, world}
use Rattle.tree_world.proofs.Settling.{settled, settled_all, settles_one_more, short}
use Rattle.tree_world.proofs.running_tree.RunningTree.settle.Goals as goal

pub loop-preserved : goal.loop-preserved
loop-preserved g c =
    let first : Some c.in-Some.number ≡ least_open 1 (running_state c.loop.self).delivered = search rules in (
      settles_one_more c.loop.counter (running_state c.args.self.now)
          (world c.loop.self.tree (kept_at c.loop.self.nodes.nodes.entries)
          c.least_open.new.self) (running_state c.loop.self)
          (running_state c.deliver_ready.new.self) c.in-Some.number
          (stays _ _ _ _ c.least_open.ensures.keeps) c.loop.invariant.0 first
          c.in_ok-deliver_ready.ensures.ok,
      c.in_ok-deliver_ready.ensures.stay ∙ c.loop.invariant.1,
    )

pub deliver_ready-requires-clause-counted : goal.deliver_ready-requires-clause-counted
deliver_ready-requires-clause-counted g c = ap (λ (f : FaultsSight). f.last) c.loop.invariant.1 ∙ c.requires

pub returns-in_default-clause-ok : goal.returns-in_default-clause-ok
returns-in_default-clause-ok g c =
    let none : None ≡ least_open 1 (running_state c.loop.self).delivered = search rules in
    settled 10000 c.loop.counter (running_state c.args.self.now) (running_state c.loop.self)
    (world c.loop.self.tree (kept_at c.loop.self.nodes.nodes.entries) c.least_open.new.self)
    c.loop-test.true c.loop.invariant.0 none (stays _ _ _ _ c.least_open.ensures.keeps)

pub returns-in_err-number-clause-err : goal.returns-in_err-number-clause-err
returns-in_err-number-clause-err g c =
    let new = world c.loop.self.tree (kept_at c.loop.self.nodes.nodes.entries) c.least_open.new.self in
    passed_on c.from_residual.result Memory (λ e. Stops (running_state c.args.self.now) Settle e
    new) c.from_residual.ensures.1
    (short 10000 c.loop.counter (running_state c.args.self.now) (running_state c.loop.self) new
    c.loop-test.true c.loop.invariant.0
    (stays _ _ _ _ c.least_open.ensures.keeps))

pub returns-in_err-number-clause-noted : goal.returns-in_err-number-clause-noted
returns-in_err-number-clause-noted g c =
    passed_on c.from_residual.result Memory
    (NotedUntil (running_state c.args.self.now) c.args.self.now.faults Settle
    (world c.loop.self.tree (kept_at c.loop.self.nodes.nodes.entries) c.least_open.new.self)
    c.loop.self.faults)
    c.from_residual.ensures.1 c.loop.invariant.1

pub returns-clause-ok : goal.returns-clause-ok
returns-clause-ok g c =
    settled_all 10000 c.loop.counter (running_state c.args.self.now) (running_state c.loop.self)
    (omega (arith, c.loop-test.false, c.loop.auto.counter-end))
    c.loop.invariant.0

pub returns-in_err-number-clause-ok : goal.returns-in_err-number-clause-ok
returns-in_err-number-clause-ok g c = no_success c.from_residual.result _ _ c.from_residual.ensures.1

pub returns-in_err-deliver_ready-clause-ok : goal.returns-in_err-deliver_ready-clause-ok
returns-in_err-deliver_ready-clause-ok g c = no_success c.from_residual-in_err-deliver_ready.result _ _
    c.from_residual-in_err-deliver_ready.ensures.1
