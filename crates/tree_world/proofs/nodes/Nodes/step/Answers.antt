use Rattle.std.proofs.Common.{rules}
use Rattle.process_state.specs.Inputs.{input_of}
use Rattle.tree_world.proofs.Processes.{process_equality}
use Rattle.tree_world.proofs.Steps.{broken_under, stepped, stopped, unmoved}
use Rattle.tree_world.proofs.nodes.Nodes.step.Goals as goal

-- Its count was not to be had.

pub returns-in_default-count-clause-err : goal.returns-in_default-count-clause-err
returns-in_default-count-clause-err g c =
    unmoved _ _ c.args.process c.in-Some.node.now c.count.new.self (search rules) (search rules)
    (search (rules, process_equality)) c.count.ensures.same

-- It took the input.

pub returns-clause-ok : goal.returns-clause-ok
returns-clause-ok g c =
    stepped _ _ c.args.process (input_of c.args.input) c.in-Some.node.now c.handle.new.self c.handle.result
    (search rules) (search rules)
    (search (rules, process_equality)) (rw (← c.count.ensures.same) c.handle.ensures.ok)

pub returns-clause-err : goal.returns-clause-err
returns-clause-err g c =
    stopped _ _ c.args.process (input_of c.args.input) c.in-Some.node.now c.handle.new.self c.handle.result
    (search rules) (search rules)
    (search (rules, process_equality)) (rw (← c.count.ensures.same) c.handle.ensures.err)

pub returns-clause-under : goal.returns-clause-under
returns-clause-under g c =
    broken_under _ _ c.args.process (input_of c.args.input) c.in-Some.node.now
    c.handle.new.self c.handle.result
    (search rules) (search rules)
    (search (rules, process_equality)) (rw (← c.count.ensures.same) c.handle.ensures.under)
