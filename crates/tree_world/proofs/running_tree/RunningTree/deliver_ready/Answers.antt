use Rattle.std.proofs.Common.{rules}
use Rattle.tree_world.specs.Nodes.{kept_at}
use Rattle.tree_world.proofs.Acting.{delivered, delivery_stopped, kept}
use Rattle.tree_world.proofs.Noted.{delivery_fails, delivery_noted, where_failed}
use Rattle.tree_world.proofs.running_tree.RunningTree.deliver_ready.Goals as goal

-- The device failed.

pub returns-then-is_fault-clause-err : goal.returns-then-is_fault-clause-err
returns-then-is_fault-clause-err g c =
    delivery_fails _ (kept_at c.args.self.now.nodes.nodes.entries)
    (kept_at c.step-made.new.self.nodes.entries) c.args.self.now.journal
    c.args.self.now.journal c.args.number c.in-Some.envelope.now c.step-made.result.1
    (kept c.args.self.now.journal)
    (search rules) (search rules) c.step-made.ensures.err

pub returns-then-is_fault-clause-noted : goal.returns-then-is_fault-clause-noted
returns-then-is_fault-clause-noted g c =
    delivery_noted _ (kept_at c.args.self.now.nodes.nodes.entries)
    (kept_at c.step-made.new.self.nodes.entries) c.args.self.now.journal
    c.args.self.now.journal c.args.self.now.faults _ c.args.number c.in-Some.envelope.now _
    c.step-made.result.1
    (kept c.args.self.now.journal) (search rules) (search rules) c.step-made.ensures.under
    (where_failed c.step-made.result.1 _ (search rules) c.step-made.ensures.before) c.note.ensures

-- The step was made, or refused.

pub returns-clause-ok : goal.returns-clause-ok
returns-clause-ok g c =
    delivered _ (kept_at c.args.self.now.nodes.nodes.entries) (kept_at c.step-made.new.self.nodes.entries)
    c.args.self.now.journal
    c.args.self.now.journal c.close_message.new.self c.args.number
    c.in-Some.envelope.now c.step-made.result.1 c.close_message.result
    (kept c.args.self.now.journal) (search rules)
    c.step-made.ensures.ok c.close_message.ensures.ok

pub returns-clause-err : goal.returns-clause-err
returns-clause-err g c =
    delivery_stopped _ (kept_at c.args.self.now.nodes.nodes.entries)
    (kept_at c.step-made.new.self.nodes.entries) c.args.self.now.journal
    c.args.self.now.journal c.close_message.new.self c.args.number
    c.in-Some.envelope.now c.step-made.result.1 c.close_message.result
    (kept c.args.self.now.journal) (search rules)
    c.step-made.ensures.err c.close_message.ensures.err
