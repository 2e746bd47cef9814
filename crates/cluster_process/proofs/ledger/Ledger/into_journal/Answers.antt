use Rattle.std.proofs.Common.{◌∙◌, subst, sym}
use Rattle.proof_cuts.specs.Owns.{CutHolds}
use Rattle.proof_cuts.proofs.Owns.{cuts_hold}
use Rattle.cluster_ties.specs.Views.{entries_in}
use Rattle.cluster_process.proofs.ledger.Ledger.into_journal.Goals as goal

pub returns-clause-run : goal.returns-clause-run
returns-clause-run g c =
    let has = c.self.invariant.3 in
    subst (λ l. CutHolds g.N.Seats.tree (entries_in l)) (sym (c.new.ensures ∙ c.into_turns.ensures))
    (cuts_hold g.N.Seats.tree (entries_in c.self.inside.journal.entries) has.left c.self.invariant.2 has.cut)
