use Rattle.std.proofs.Common.{◌∙◌, [], subst, sym}
use Rattle.cluster_ties.specs.Views.{entries_in, keeper}
use Rattle.cluster_process.specs.Locked.{HasCut}
use Rattle.cluster_process.proofs.Empty.{empty_cut}
use Rattle.cluster_process.proofs.ledger.Ledger.new.Goals as goal

pub invariant_of-result : goal.invariant_of-result
invariant_of-result g c =
    let none = c.new.ensures.entries in
    let j = c.args.seat.me.0.journal in (
      c.requires.here,
      c.requires.seat ∙ (λ i. (keeper j.names j.opened j.given (sym none i), [])),
      c.requires.tree,
      subst (λ l. HasCut g.N.Seats.tree (entries_in l)) (sym none) (empty_cut g.N.Seats.tree),
      c.requires.callers,
    )
