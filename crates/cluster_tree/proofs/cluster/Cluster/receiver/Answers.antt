use Rattle.std.proofs.Common.{◌∙◌, ap, subst, sym}
use Rattle.cluster_journal.specs.Journals.{ClusterState}
use Rattle.proof_cuts.specs.Owns.{CutHolds}
use Rattle.cluster_ties.specs.Views.{entries_in}
use Rattle.cluster_tree.proofs.Refused.{not_received, received}
use Rattle.cluster_tree.proofs.cluster.Cluster.receiver.Goals as goal

pub returns-clause-ok : goal.returns-clause-ok
returns-clause-ok g c =
    let tree = g.N.Seats.tree in
    let first = c.deref.ensures ∙ sym c.deref_mut.ensures.value in
    received c.receiver_in.result tree c.args.pass.now c.args.number c.deref_mut.result.now.entries
    c.deref_mut-2.result.now.entries
    (record {
      run = subst (λ (j : ClusterState). CutHolds tree (entries_in j.entries)) first c.is_a_run.ensures;
      met = c.meets.ensures.met;
    })
    (ap (λ (j : ClusterState). j.entries) (c.deref_mut-2.ensures.value ∙ c.meets.ensures.same.0))
    c.receiver_in.ensures.ok

pub returns-clause-err : goal.returns-clause-err
returns-clause-err g c =
    let tree = g.N.Seats.tree in
    let first = c.deref.ensures ∙ sym c.deref_mut.ensures.value in
    not_received c.receiver_in.result tree c.args.pass.now c.args.number c.deref_mut.result.now.entries
    c.deref_mut-2.result.now.entries
    (record {
      run = subst (λ (j : ClusterState). CutHolds tree (entries_in j.entries)) first c.is_a_run.ensures;
      met = c.meets.ensures.met;
    })
    (ap (λ (j : ClusterState). j.entries) (c.deref_mut-2.ensures.value ∙ c.meets.ensures.same.0))
    c.receiver_in.ensures.err
