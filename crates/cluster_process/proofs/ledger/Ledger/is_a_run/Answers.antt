use Rattle.std.proofs.Common.{subst}
use Rattle.cluster_journal.specs.Journals.{ClusterState}
use Rattle.proof_cuts.specs.Owns.{CutHolds}
use Rattle.proof_cuts.proofs.Owns.{cuts_hold}
use Rattle.cluster_ties.specs.Views.{entries_in}
use Rattle.cluster_process.proofs.ledger.Ledger.is_a_run.Goals as goal

pub returns : goal.returns
returns g c =
    let has = c.self.invariant.3 in
    subst (λ (j : ClusterState). CutHolds g.N.Seats.tree (entries_in j.entries)) c.self.view_is
    (cuts_hold g.N.Seats.tree (entries_in c.self.inside.journal.entries) has.left c.self.invariant.2 has.cut)
