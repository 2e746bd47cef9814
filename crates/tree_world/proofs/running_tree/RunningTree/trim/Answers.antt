use Rattle.std.proofs.Common.{refl, rules, subst}
use Rattle.log_rules.specs.sound.Written.{AreBytes}
use Rattle.tree_world.specs.Nodes.{kept_at}
use Rattle.tree_world.specs.Restarts.{NoTrimAt, TrimsAt}
use Rattle.tree_world.proofs.Noted.{trim_fault_noted, where_failed, with_device, with_ok}
use Rattle.tree_world.proofs.Restarted.{world_trims}
use Rattle.tree_world.proofs.running_tree.RunningTree.trim.Goals as goal

pub returns-in-Ok-clause-ok : goal.returns-in-Ok-clause-ok
returns-in-Ok-clause-ok g c =
    let nodes = kept_at c.args.self.now.nodes.nodes.entries in
    let after = kept_at c.trim-made.new.self.nodes.entries in
    world_trims _ nodes after c.args.self.now.journal c.make_room.new.self c.enter.new.self _
    _ _ (with_ok c.trim-made.result.1 _ (TrimsAt nodes after c.args.process) (search rules)
    c.trim-made.ensures.ok)
    c.trimmed.ensures c.in_ok-make_room.ensures.keeps c.enter.ensures.net
    c.enter.ensures.delivered c.enter.ensures.entries

pub returns-in-Err-Device-clause-noted : goal.returns-in-Err-Device-clause-noted
returns-in-Err-Device-clause-noted g c =
    let nodes = kept_at c.args.self.now.nodes.nodes.entries in
    let after = kept_at c.trim-made.new.self.nodes.entries in
    trim_fault_noted _ nodes after c.args.self.now.journal
    c.make_room.new.self c.args.self.now.faults _ c.args.process _ c.in_ok-text.text.items _
    c.in_ok-make_room.ensures.keeps
    (with_device c.trim-made.result.1 (NoTrimAt nodes after c.args.process) (search rules)
    c.trim-made.ensures.err)
    (where_failed c.trim-made.result.1 _ (search rules) c.trim-made.ensures.before) c.in_ok-text.ensures
    (subst AreBytes c.deref.ensures.value c.are_bytes.ensures.each) c.log_stands.ensures refl
    (λ b s. refl) c.note.ensures
