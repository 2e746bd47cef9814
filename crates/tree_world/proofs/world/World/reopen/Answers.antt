use Rattle.std.proofs.Common.{arith}
use Rattle.tree_world.specs.Nodes.{kept_at}
use Rattle.proof_reopened.proofs.Openings.{reopened_on}
use Rattle.tree_world.proofs.FromReady.{all_returned}
use Rattle.tree_world.proofs.ReopenedTrees.{given_first, never_faulty, not_readied_first, not_restarted_first, ready_first, reopened_first, returned_first}
use Rattle.tree_world.proofs.world.World.reopen.Goals as goal

pub returns-in-Err-clause-handed_back : goal.returns-in-Err-clause-handed_back
returns-in-Err-clause-handed_back g c =
    all_returned g.L.LogStore.bytes g.L.LogStore.forced g.L.LogStore.failures c.args.tree
    c.args.stores.items _

-- A log was not made ready.

pub returns-in-Err-ready_from-clause-err : goal.returns-in-Err-ready_from-clause-err
returns-in-Err-ready_from-clause-err g c =
    not_readied_first g.L.LogStore.bytes g.L.LogStore.forced g.L.LogStore.failures c.args.tree
    c.args.stores.items
    c.reverse.new.self.items c.reverse.ensures.items c.in-Err-ready_from.error c.in-Err-ready_from.ensures.err

pub returns-in-Err-ready_from-clause-handed_back : goal.returns-in-Err-ready_from-clause-handed_back
returns-in-Err-ready_from-clause-handed_back g c =
    returned_first g.L.LogStore.bytes g.L.LogStore.forced g.L.LogStore.failures c.args.tree
    c.args.stores.items
    c.reverse.new.self.items c.reverse.ensures.items c.ready_from.new.stores.items
    c.reverse-in-Err-ready_from.new.self.items
    c.in-Err-ready_from.error c.reverse-in-Err-ready_from.ensures.items
    c.in-Err-ready_from.ensures.handed_back

-- A process did not restart.

pub restart_from-requires-clause-ready : goal.restart_from-requires-clause-ready
restart_from-requires-clause-ready g c =
    ready_first g.L.LogStore.bytes g.L.LogStore.forced g.L.LogStore.failures c.args.tree c.args.stores.items
    c.reverse.new.self.items c.reverse.ensures.items c.ready_from.new.stores.items c.in_default.ensures.ok

pub returns-in-Err-restart_from-clause-err : goal.returns-in-Err-restart_from-clause-err
returns-in-Err-restart_from-clause-err g c =
    not_restarted_first g.L.LogStore.bytes g.L.LogStore.forced g.L.LogStore.failures c.args.tree
    c.args.stores.items
    c.reverse.new.self.items c.reverse.ensures.items c.ready_from.new.stores.items c.in_default.ensures.ok
    c.in-Err-restart_from.error c.in-Err-restart_from.ensures.err

pub returns-in-Err-restart_from-clause-handed_back : goal.returns-in-Err-restart_from-clause-handed_back
returns-in-Err-restart_from-clause-handed_back g c =
    given_first g.L.LogStore.bytes g.L.LogStore.forced g.L.LogStore.failures c.args.tree c.args.stores.items
    c.reverse.new.self.items c.reverse.ensures.items c.ready_from.new.stores.items c.in_default.ensures.ok
    c.restart_from.new.stores.items c.reverse-in-Err-restart_from.new.self.items c.in-Err-restart_from.error
    c.reverse-in-Err-restart_from.ensures.items c.in-Err-restart_from.ensures.handed_back

-- The tree was opened.

pub invariant_of-result : goal.invariant_of-result
invariant_of-result g c =
    rw c.new-faults.ensures (record { run = c.requires; trace = tt; places = omega arith })

pub returns-clause-sound : goal.returns-clause-sound
returns-clause-sound g c =
    never_faulty g.L.LogStore.bytes g.L.LogStore.forced g.L.LogStore.failures c.args.tree c.args.stores.items
    c.reverse.new.self.items c.reverse.ensures.items c.ready_from.new.stores.items c.in_default.ensures.ok

pub returns-clause-reopened : goal.returns-clause-reopened
returns-clause-reopened g c =
    (reopened_first g.L.LogStore.bytes g.L.LogStore.forced g.L.LogStore.failures c.args.tree
    c.args.stores.items
    c.reverse.new.self.items c.reverse.ensures.items c.ready_from.new.stores.items c.in_default.ensures.ok
    (kept_at c.restart_from.new.nodes.entries) c.new-journal.result c.restart_from.new.journal
    c.in_default-restart_from.ensures.ok c.new-journal.ensures.net c.new-journal.ensures.delivered
    c.new-journal.ensures.entries)

pub returns-clause-goes_on : goal.returns-clause-goes_on
returns-clause-goes_on g c es w =
    reopened_on c.args.tree _ _ es w c.requires (returns-clause-reopened g c)
