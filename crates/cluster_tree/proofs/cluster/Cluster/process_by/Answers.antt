use Rattle.std.proofs.Common.{IfErr, IfOk, subst, sym}
use Rattle.protocol.specs.declared.events.Event.{Event}
use Rattle.protocol.specs.declared.names.ProcessId.{ProcessId}
use Rattle.protocol.specs.Trees.{root_of}
use Rattle.cluster_tree.specs.Posts.{IsOf}
use Rattle.cluster_tree.specs.Refusals.{IsAddressed, IsRefusedPost}
use Rattle.cluster_tree.proofs.Refused.{no_receiver, of_any}
use Rattle.cluster_tree.proofs.cluster.Cluster.process_by.Goals as goal

pub returns-in-Deliver-clause-ok : goal.returns-in-Deliver-clause-ok
returns-in-Deliver-clause-ok g c =
    subst (λ (e : Event). IfOk c.receiver.result (λ (q : ProcessId). IsOf (root_of g.N.Seats.tree) q e))
    (sym c.in-Deliver.is) (of_any c.receiver.result (root_of g.N.Seats.tree) c.in-Deliver.number)

pub returns-in-Deliver-clause-addressed : goal.returns-in-Deliver-clause-addressed
returns-in-Deliver-clause-addressed g c =
    subst (λ (e : Event). IfOk c.receiver.result
    (λ (q : ProcessId). IsAddressed g.N.Seats.tree c.args.pass.now q e))
    (sym c.in-Deliver.is) c.receiver.ensures.ok

pub returns-in-Deliver-clause-err : goal.returns-in-Deliver-clause-err
returns-in-Deliver-clause-err g c =
    subst (λ (e : Event). IfErr c.receiver.result (IsRefusedPost g.N.Seats.tree e c.args.pass.now))
    (sym c.in-Deliver.is)
    (no_receiver c.receiver.result g.N.Seats.tree c.args.pass.now c.in-Deliver.number c.receiver.ensures.err)
