use Rattle.std.proofs.Common.{rules}
use Rattle.tree_world.proofs.Processes.{process_equality}
use Rattle.tree_world.proofs.Restarted.{not_restarted, restarted}
use Rattle.tree_world.proofs.Steps.{unmoved}
use Rattle.tree_world.proofs.nodes.Nodes.restart.Goals as goal

-- Its count was not to be had.

pub returns-in_default-count-clause-err : goal.returns-in_default-count-clause-err
returns-in_default-count-clause-err g c =
    unmoved _ _ c.args.process c.in-Some.node.now c.count.new.self (search rules) (search rules)
    (search (rules, process_equality)) c.count.ensures.same

-- It restarted, or not.

pub returns-clause-ok : goal.returns-clause-ok
returns-clause-ok g c =
    restarted _ _ c.args.process c.args.bytes c.in-Some.node.now
    c.restart.new.self c.restart.result
    (search rules) (search rules) (search (rules, process_equality))
    (rw (← c.count.ensures.same) c.restart.ensures.ok)

pub returns-clause-err : goal.returns-clause-err
returns-clause-err g c =
    not_restarted _ _ c.args.process c.args.bytes c.in-Some.node.now
    c.restart.new.self c.restart.result
    (search rules) (search rules) (search (rules, process_equality))
    (rw (← c.count.ensures.same) c.restart.ensures.err)
