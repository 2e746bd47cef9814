use Rattle.std.proofs.Common.{rules}
use Rattle.tree_world.specs.Nodes.{kept_at}
use Rattle.tree_world.specs.Restarts.{NoRestartAt, RestartsAt}
use Rattle.tree_world.proofs.Noted.{restart_fault, where_failed, with_device, with_ok}
use Rattle.tree_world.proofs.Restarted.{world_restarts}
use Rattle.tree_world.proofs.running_tree.RunningTree.restart.Goals as goal

pub returns-in-Ok-clause-ok : goal.returns-in-Ok-clause-ok
returns-in-Ok-clause-ok g c =
    let nodes = kept_at c.args.self.now.nodes.nodes.entries in
    let after = kept_at c.restart-made.new.self.nodes.entries in
    world_restarts _ nodes after c.args.self.now.journal c.make_room.new.self c.enter.new.self
    _ _ _ (with_ok c.restart-made.result.1 _
    (RestartsAt nodes after c.args.process c.args.bytes) (search rules)
    c.restart-made.ensures.ok)
    c.in_ok-make_room.ensures.keeps c.enter.ensures.net c.enter.ensures.delivered c.enter.ensures.entries

pub returns-in-Err-Device-clause-noted : goal.returns-in-Err-Device-clause-noted
returns-in-Err-Device-clause-noted g c =
    let nodes = kept_at c.args.self.now.nodes.nodes.entries in
    let after = kept_at c.restart-made.new.self.nodes.entries in
    restart_fault _ nodes after c.args.self.now.journal
    c.make_room.new.self c.args.self.now.faults _ c.args.process c.args.bytes _ _
    c.in_ok-make_room.ensures.keeps
    (with_device c.restart-made.result.1 (NoRestartAt nodes after c.args.process c.args.bytes) (search rules)
    c.restart-made.ensures.err)
    (where_failed c.restart-made.result.1 _ (search rules) c.restart-made.ensures.before)
    c.in_ok-keeps.ensures c.note.ensures
