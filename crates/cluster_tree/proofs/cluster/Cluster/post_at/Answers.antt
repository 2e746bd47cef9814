use Rattle.std.proofs.Common.{◌∙◌}
use Rattle.cluster_tree.proofs.Refused.{no_such, not_at}
use Rattle.cluster_tree.proofs.cluster.Cluster.post_at.Goals as goal

pub returns-in_default-clause-refused : goal.returns-in_default-clause-refused
returns-in_default-clause-refused g c =
    no_such g.N.Seats.tree c.entries.result.now c.args.process c.args.event c.args.pass.now
    (c.entries.ensures ∙ c.args.self.now.tree_is) c.in_default.ensures

pub returns-clause-refused : goal.returns-clause-refused
returns-clause-refused g c =
    not_at c.post_in.result g.N.Seats.tree c.args.process c.args.event c.args.pass.now
    c.post_in.ensures.refused
