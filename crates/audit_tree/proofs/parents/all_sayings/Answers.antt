use Rattle.audit_tree.proofs.Climbs.{said_more}
use Rattle.audit_tree.proofs.parents.all_sayings.Goals as goal

pub loop-entry-preserved : goal.loop-entry-preserved
loop-entry-preserved c =
    said_more c.args.tree.now c.requires c.args.notes.now.entries
    c.entries-entries.result.now c.loop-entry.entry-index
    c.entry-item.result c.loop-entry.said.entries c.say_above.new.said.entries c.entries-entries.ensures
    c.loop-entry-test.true c.entry-item.is c.in_ok-say_above.ensures c.loop-entry.invariant
