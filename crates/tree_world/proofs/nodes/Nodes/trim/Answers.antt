use Rattle.std.proofs.Common.{rules}
use Rattle.tree_world.proofs.Processes.{process_equality}
use Rattle.tree_world.proofs.Restarted.{not_trimmed, trimmed}
use Rattle.tree_world.proofs.Steps.{unmoved}
use Rattle.tree_world.proofs.nodes.Nodes.trim.Goals as goal

-- Its count was not to be had.

pub returns-in_default-count-clause-err : goal.returns-in_default-count-clause-err
returns-in_default-count-clause-err g c =
    unmoved _ _ c.args.process c.in-Some.node.now c.count.new.self (search rules) (search rules)
    (search (rules, process_equality)) c.count.ensures.same

-- Its log was trimmed, or not.

pub returns-clause-ok : goal.returns-clause-ok
returns-clause-ok g c =
    trimmed _ _ c.args.process c.in-Some.node.now c.trim.new.self c.trim.result
    (search rules) (search rules)
    (search (rules, process_equality)) (rw (← c.count.ensures.same) c.trim.ensures.ok)

pub returns-clause-err : goal.returns-clause-err
returns-clause-err g c =
    not_trimmed _ _ c.args.process c.in-Some.node.now c.trim.new.self c.trim.result
    (search rules) (search rules)
    (search (rules, process_equality)) (rw (← c.count.ensures.same) c.trim.ensures.err)
