use Rattle.std.proofs.Common.{rules}
use Rattle.tree_world.proofs.Strangers.{fault_by_damage, fault_by_stranger}
use Rattle.tree_world.proofs.own_names.fault_in.Goals as goal

pub returns-in-Some : goal.returns-in-Some
returns-in-Some c =
    fault_by_stranger c.args.tree.now c.args.entry.now c.args.bytes.now c.frames_of-frames.result.now
    c.sound_bytes.result.now
    c.of_bytes-form.result c.in_ok-damage.damage _ c.of_bytes-form.ensures c.in_ok-damage.ensures
    c.sound_bytes.ensures
    c.frames_of-frames.ensures c.in_ok-place.ensures c.in-Some.place (search rules)

pub returns-in-None : goal.returns-in-None
returns-in-None c =
    fault_by_damage c.args.tree.now c.args.entry.now c.args.bytes.now c.frames_of-frames.result.now
    c.sound_bytes.result.now
    c.of_bytes-form.result c.in_ok-damage.damage _ c.of_bytes-form.ensures c.in_ok-damage.ensures
    c.sound_bytes.ensures
    c.frames_of-frames.ensures c.in_ok-place.ensures (search rules)
