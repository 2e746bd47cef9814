use Rattle.std.proofs.Common.{◌∙◌, ap, subst}
use Rattle.cluster_journal.specs.Journals.{ClusterState}
use Rattle.protocol.specs.World.{entries_of}
use Rattle.proof_cuts.specs.Owns.{OwnRun, StandsInRun}
use Rattle.proof_cuts.proofs.Owns.{one_stands}
use Rattle.tree_process.specs.Nodes.{core_of}
use Rattle.cluster_ties.specs.Views.{entries_in, own_of}
use Rattle.cluster_process.specs.Locked.{SeatedState}
use Rattle.cluster_process.proofs.seated.Seated.stands.Goals as goal

pub returns-clause-stands : goal.returns-clause-stands
returns-clause-stands g c =
    let tree = g.N.Seats.tree in
    let me = c.self.inside.me in
    let core = core_of c.self.inside.node in
    let has = c.ledger.invariant.3 in
    let xs = entries_in c.ledger.inside.journal.entries in
    let named = c.self.invariant.2.1 in
    let all = ap (λ m. m.0.journal.all) c.ledger.invariant.1 in
    let own = c.compare.ensures.tied
    ∙ ap (λ n. own_of n (entries_in c.ledger.inside.seat.me.0.journal.all)) named
    ∙ ap (λ l. entries_of me (entries_in l)) all in
    let stands : StandsInRun tree xs me core = one_stands tree xs has.left me core
    c.ledger.invariant.2 has.cut
    (subst (λ l. OwnRun tree me l core) own c.self.invariant.5) in
    subst (λ (s : SeatedState). StandsInRun tree (entries_in c.args.ledger.now.entries) s.me (core_of s.node))
    c.self.view_is
    (subst (λ (j : ClusterState). StandsInRun tree (entries_in j.entries) me core) c.ledger.view_is stands)
