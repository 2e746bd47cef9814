use Rattle.tree_engine.proofs.Fits.{not_counted}
use Rattle.tree_engine.proofs.Sums.{counted}
use Rattle.tree_engine.proofs.rows.RunCounts.add.Goals as goal

pub returns-clause-ok : goal.returns-clause-ok
returns-clause-ok c =
    counted c.add_entry.result c.args.self.now c.self.inside.rows.items
    c.as_mut_slice.result.now c.add_entry.new.rows
    c.self.inside.rows.len c.args.entry.now c.self.view_is
    c.as_mut_slice.ensures.value c.as_mut_slice.ensures.len
    c.add_entry.ensures.ok

pub returns-clause-err : goal.returns-clause-err
returns-clause-err c =
    not_counted c.add_entry.result c.args.self.now c.self.inside.rows.items c.as_mut_slice.result.now
    c.args.entry.now c.self.view_is c.as_mut_slice.ensures.value c.add_entry.ensures.err
