use Rattle.std.proofs.Common.{arith}
use Rattle.cluster_tree.proofs.Passing.{longer_first}
use Rattle.cluster_tree.proofs.cluster.Cluster.run_workers.Goals as goal

pub returns-clause-longer : goal.returns-clause-longer
returns-clause-longer g c =
    let some = c.requires.0 in
    let long = c.work_each.ensures.long in
    longer_first c.args.passes.now c.work_each.new.passes c.index-passes-0.result c.work-is_settled.new.pass
    c.work_each.ensures.longer (omega (arith, some, long)) c.work-is_settled.ensures.longer
