use Rattle.std.proofs.Common.{arith}
use Rattle.audit_engine.proofs.ChainLaws.{named_all, named_next, none_named}
use Rattle.audit_engine.proofs.chains.all_namings.Goals as goal

pub loop-entry-init : goal.loop-entry-init
loop-entry-init c = none_named c.args.tree.now c.args.notes.now.entries _

pub loop-entry-preserved : goal.loop-entry-preserved
loop-entry-preserved c =
    named_next c.args.tree.now c.args.notes.now.entries c.entries-entries.result.now c.loop-entry.entry-index
    c.entry-item.result c.loop-entry.namings.entries c.add.new.namings.entries
    c.loop-entry-test.true c.entry-item.is
    c.in_ok-add.ensures c.loop-entry.invariant

pub returns : goal.returns
returns c =
    named_all c.args.tree.now c.args.notes.now.entries c.entries-entries.result.now c.loop-entry.entry-index
    c.loop-entry.namings.entries c.entries-entries.ensures
    (omega (arith, c.loop-entry-test.false)) c.loop-entry.invariant
