use Rattle.std.proofs.Common.{◌∙◌, IfErr, IfOk, refl, subst, sym}
use Rattle.protocol.specs.Trees.{root_of}
use Rattle.cluster_process.specs.Marks.{ActsHere}
use Rattle.cluster_process.specs.Posts.{NotPosted, PostsOne}
use Rattle.cluster_tree.proofs.cluster.Cluster.post_in.Goals as goal

pub post-requires-clause-acts : goal.post-requires-clause-acts
post-requires-clause-acts g c =
    subst (λ q. ActsHere (root_of g.N.Seats.tree) q c.args.event)
    (sym (c.if-not-is_same.ensures.yes refl) ∙ c.me.ensures) c.requires

pub returns-clause-ok : goal.returns-clause-ok
returns-clause-ok g c =
    subst (λ q. IfOk c.post.result (λ r. PostsOne g.N.Seats.tree q c.args.event c.args.pass.now
    c.post.new.pass r.place
    r.begun)) (sym c.me.ensures ∙ c.if-not-is_same.ensures.yes refl) c.post.ensures.ok

pub returns-clause-refused : goal.returns-clause-refused
returns-clause-refused g c =
    subst (λ q. IfErr c.post.result (NotPosted g.N.Seats.tree q c.args.event c.args.pass.now))
    (sym c.me.ensures ∙ c.if-not-is_same.ensures.yes refl) c.post.ensures.refused
