use Rattle.tree_world.specs.Worlds.{state}
use Rattle.tree_world.proofs.LogsLeft.{stands_more}
use Rattle.tree_world.proofs.byte_logs.logs_stand.Goals as goal

pub loop-entry-preserved : goal.loop-entry-preserved
loop-entry-preserved g c =
    stands_more (state c.args.world.now) c.entries-entry-items.result.now c.loop-entry.entry-index
    c.entry-item.result
    c.loop-entry-test.true c.entry-item.is c.log_stands.ensures c.loop-entry.invariant
