use Rattle.std.proofs.Common.{◌∙◌, IfErr, IfOk, refl, subst, sym}
use Rattle.protocol.specs.declared.events.Event.TheVariants.{Deliver}
use Rattle.cluster_process.specs.Posts.{DeliversTurn, NotPosted}
use Rattle.cluster_tree.proofs.cluster.Cluster.deliver_in.Goals as goal

pub returns-clause-ok : goal.returns-clause-ok
returns-clause-ok g c =
    subst (λ q. IfOk c.deliver.result (λ r. DeliversTurn g.N.Seats.tree q c.args.number c.args.pass.now
    c.deliver.new.pass r.place)) (sym c.me.ensures ∙ c.if-not-is_same.ensures.yes refl) c.deliver.ensures.ok

pub returns-clause-refused : goal.returns-clause-refused
returns-clause-refused g c =
    subst (λ q. IfErr c.deliver.result (NotPosted g.N.Seats.tree q (Deliver c.args.number) c.args.pass.now))
    (sym c.me.ensures ∙ c.if-not-is_same.ensures.yes refl) c.deliver.ensures.refused
