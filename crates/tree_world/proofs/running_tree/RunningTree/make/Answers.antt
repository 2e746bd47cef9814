use Rattle.protocol.specs.declared.events.StepError.TheVariants.{Memory}
use Rattle.std.proofs.Common.{[], subst, sym}
use Rattle.tree_state.specs.Worlds.{Stops}
use Rattle.tree_faults.specs.Traces.{AddsUntil}
use Rattle.tree_world.specs.Worlds.{running_state}
use Rattle.tree_world.proofs.Handling.{passed_on}
use Rattle.tree_world.proofs.Making.{next_adds, next_err, next_ok, next_places, next_until, nothing_adds, nothing_moves}
use Rattle.tree_world.proofs.Settling.{not_begun}
use Rattle.tree_world.proofs.running_tree.RunningTree.make.Goals as goal

-- It was not counted what the last fault left.

pub returns-in_err-count_fault-clause-err : goal.returns-in_err-count_fault-clause-err
returns-in_err-count_fault-clause-err g c =
    let s = running_state c.args.self.now in
    let t = running_state c.count_fault.new.self in
    passed_on c.from_residual.result Memory (λ e. Stops s c.args.event e t) c.from_residual.ensures.1
    (subst (λ w. Stops s c.args.event Memory w) (sym c.count_fault.ensures.state) (not_begun s c.args.event))

pub returns-in_err-count_fault-clause-places : goal.returns-in_err-count_fault-clause-places
returns-in_err-count_fault-clause-places g c =
    nothing_moves (running_state c.args.self.now) (running_state c.count_fault.new.self)
    c.args.self.now.faults
    c.count_fault.new.self.faults c.count_fault.ensures.state c.in_err-count_fault.ensures.err c.requires

pub returns-in_err-count_fault-clause-until : goal.returns-in_err-count_fault-clause-until
returns-in_err-count_fault-clause-until g c =
    let s = running_state c.args.self.now in
    let t = running_state c.count_fault.new.self in
    passed_on c.from_residual.result Memory
    (AddsUntil s c.args.self.now.faults c.args.event t c.count_fault.new.self.faults)
    c.from_residual.ensures.1
    (nothing_adds s t c.args.self.now.faults c.count_fault.new.self.faults c.count_fault.ensures.state
    c.in_err-count_fault.ensures.err)

-- The event came next.

pub make_next-requires : goal.make_next-requires
make_next-requires g c = c.in_ok-count_fault.ensures.none

pub returns-clause-ok : goal.returns-clause-ok
returns-clause-ok g c =
    next_ok (running_state c.args.self.now) (running_state c.count_fault.new.self)
    (running_state c.make_next.new.self)
    c.args.self.now.faults c.count_fault.new.self.faults c.make_next.new.self.faults c.args.event
    c.make_next.result
    c.count_fault.ensures.state c.requires c.in_ok-count_fault.ensures.none
    c.in_ok-count_fault.ensures.counted
    c.make_next.ensures.ok c.make_next.ensures.err c.make_next.ensures.stay c.make_next.ensures.noted

pub returns-clause-err : goal.returns-clause-err
returns-clause-err g c =
    next_err (running_state c.args.self.now) (running_state c.count_fault.new.self)
    (running_state c.make_next.new.self)
    c.args.self.now.faults c.count_fault.new.self.faults c.make_next.new.self.faults c.args.event
    c.make_next.result
    c.count_fault.ensures.state c.requires c.in_ok-count_fault.ensures.none
    c.in_ok-count_fault.ensures.counted
    c.make_next.ensures.ok c.make_next.ensures.err c.make_next.ensures.stay c.make_next.ensures.noted

pub returns-clause-places : goal.returns-clause-places
returns-clause-places g c =
    next_places (running_state c.args.self.now) (running_state c.count_fault.new.self)
    (running_state c.make_next.new.self)
    c.args.self.now.faults c.count_fault.new.self.faults c.make_next.new.self.faults c.args.event
    c.make_next.result
    c.count_fault.ensures.state c.requires c.in_ok-count_fault.ensures.none
    c.in_ok-count_fault.ensures.counted
    c.make_next.ensures.ok c.make_next.ensures.err c.make_next.ensures.stay c.make_next.ensures.noted

pub returns-clause-adds : goal.returns-clause-adds
returns-clause-adds g c =
    next_adds (running_state c.args.self.now) (running_state c.count_fault.new.self)
    (running_state c.make_next.new.self)
    c.args.self.now.faults c.count_fault.new.self.faults c.make_next.new.self.faults c.args.event
    c.make_next.result
    c.count_fault.ensures.state c.requires c.in_ok-count_fault.ensures.none
    c.in_ok-count_fault.ensures.counted
    c.make_next.ensures.ok c.make_next.ensures.err c.make_next.ensures.stay c.make_next.ensures.noted

pub returns-clause-until : goal.returns-clause-until
returns-clause-until g c =
    next_until (running_state c.args.self.now) (running_state c.count_fault.new.self)
    (running_state c.make_next.new.self)
    c.args.self.now.faults c.count_fault.new.self.faults c.make_next.new.self.faults c.args.event
    c.make_next.result
    c.count_fault.ensures.state c.requires c.in_ok-count_fault.ensures.none
    c.in_ok-count_fault.ensures.counted
    c.make_next.ensures.ok c.make_next.ensures.err c.make_next.ensures.stay c.make_next.ensures.noted
