use Rattle.std.proofs.Common.{◌∙◌}
use Rattle.tree_process.specs.Nodes.{core_of, data_of}
use Rattle.tree_world.proofs.FromRestarted.{given_back, not_restarted_by, ready_stands, restarts_in}
use Rattle.tree_world.proofs.reopening.restarted.Goals as goal

-- There was no memory before.

pub returns-then-is_err-clause-handed_back : goal.returns-then-is_err-clause-handed_back
returns-then-is_err-clause-handed_back g c =
    ready_stands g.L.LogStore.bytes g.L.LogStore.forced g.L.LogStore.failures c.args.tree.now c.args.entry.now
    c.args.store c.requires

pub returns-in_default-clause-handed_back : goal.returns-in_default-clause-handed_back
returns-in_default-clause-handed_back g c =
    ready_stands g.L.LogStore.bytes g.L.LogStore.forced g.L.LogStore.failures c.args.tree.now c.args.entry.now
    c.args.store c.requires

-- It restarted.

pub returns-in-Ok-reopen_over-clause-ok : goal.returns-in-Ok-reopen_over-clause-ok
returns-in-Ok-reopen_over-clause-ok g c =
    restarts_in g.L.LogStore.bytes g.L.LogStore.forced g.L.LogStore.failures c.args.tree.now c.args.entry.now
    c.args.store c.in-Ok.copy (core_of c.in-Ok-reopen_over.node) (data_of c.in-Ok-reopen_over.node)
    c.in-Ok-reopen_over.reaction c.args.journal.now c.make_room.new.self c.enter.new.self
    (c.in-Ok.ensures ∙ c.entries.ensures) c.in-Ok-reopen_over.ensures.ok c.make_room.ensures.keeps
    c.enter.ensures.net
    c.enter.ensures.delivered c.enter.ensures.entries

-- It did not.

pub returns-in-Err-clause-err : goal.returns-in-Err-clause-err
returns-in-Err-clause-err g c = rw c.of_node.ensures
    (not_restarted_by g.L.LogStore.bytes g.L.LogStore.forced g.L.LogStore.failures c.args.tree.now
    c.args.entry.now
    c.args.store c.in-Ok.copy (c.in-Ok.ensures ∙ c.entries.ensures) c.requires c.in-Err.error
    c.in-Err.ensures.err)

pub returns-in-Err-clause-handed_back : goal.returns-in-Err-clause-handed_back
returns-in-Err-clause-handed_back g c = rw c.of_node.ensures
    (given_back g.L.LogStore.bytes g.L.LogStore.forced g.L.LogStore.failures c.args.tree.now c.args.entry.now
    c.args.store c.in-Err.store c.requires c.in-Err.error c.in-Err.ensures.handed_back)
