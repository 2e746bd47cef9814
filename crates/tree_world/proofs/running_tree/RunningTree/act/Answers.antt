use Rattle.std.proofs.Common.{rules}
use Rattle.tree_world.specs.Nodes.{kept_at}
use Rattle.tree_world.proofs.Acting.{act_stopped, acted}
use Rattle.tree_world.proofs.Noted.{act_fails, act_noted, where_failed}
use Rattle.tree_world.proofs.running_tree.RunningTree.act.Goals as goal

-- The device failed.

pub returns-then-is_fault-clause-err : goal.returns-then-is_fault-clause-err
returns-then-is_fault-clause-err g c =
    act_fails _ (kept_at c.args.self.now.nodes.nodes.entries) (kept_at c.step-made.new.self.nodes.entries)
    c.args.self.now.journal c.make_room.new.self
    _ _ c.args.act c.step-made.result.1 (search rules) c.in_ok-make_room.ensures.keeps (search rules)
    c.step-made.ensures.err

pub returns-then-is_fault-clause-noted : goal.returns-then-is_fault-clause-noted
returns-then-is_fault-clause-noted g c =
    act_noted _ (kept_at c.args.self.now.nodes.nodes.entries) (kept_at c.step-made.new.self.nodes.entries)
    c.args.self.now.journal c.make_room.new.self
    c.args.self.now.faults _ _ c.args.act _ c.step-made.result.1 (search rules)
    c.in_ok-make_room.ensures.keeps
    (search rules) c.step-made.ensures.under
    (where_failed c.step-made.result.1 _ (search rules) c.step-made.ensures.before) c.note.ensures

-- The step was made, or refused.

pub returns-clause-ok : goal.returns-clause-ok
returns-clause-ok g c =
    acted _ (kept_at c.args.self.now.nodes.nodes.entries) (kept_at c.step-made.new.self.nodes.entries)
    c.args.self.now.journal c.make_room.new.self
    c.close_act.new.self _ _ c.args.act
    c.step-made.result.1 c.close_act.result (search rules) c.in_ok-make_room.ensures.keeps
    c.step-made.ensures.ok c.close_act.ensures.ok

pub returns-clause-err : goal.returns-clause-err
returns-clause-err g c =
    act_stopped _ (kept_at c.args.self.now.nodes.nodes.entries) (kept_at c.step-made.new.self.nodes.entries)
    c.args.self.now.journal
    c.make_room.new.self c.close_act.new.self _ _ c.args.act
    c.step-made.result.1 c.close_act.result (search rules) c.in_ok-make_room.ensures.keeps
    c.step-made.ensures.err
    c.close_act.ensures.err
