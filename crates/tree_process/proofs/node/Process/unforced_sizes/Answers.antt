use Rattle.std.proofs.Common.{◌≡◌, ◌∙◌, ap, drop, length, ◌-◌, rules}
use Rattle.tree_process.specs.Nodes.{core_of}
use Rattle.tree_process.proofs.LastRecords.{behind_forced, fit}
use Rattle.tree_process.proofs.node.Process.unforced_sizes.Goals as goal

pub sizes_of-requires : goal.sizes_of-requires
sizes_of-requires g c =
    let log = (core_of c.args.self.now).log in
    let all = c.in_ok-records.records.items in
    let n = c.in_ok-forced.field-0 in
    let long : c.len.result ≡ length all = search rules in
    fit log _ _ c.records_are_sound.ensures
    (c.split_at.ensures.back ∙ ap (λ k. drop (k - n) c.deref.result.now) long
    ∙ ap (drop (length all - n)) c.deref.ensures.value
    ∙ behind_forced log all n c.in_ok-records.ensures c.in_ok-forced.ensures)
