use Rattle.std.proofs.Common.{◌∙◌, ◌++◌, [], ap, subst, sym}
use Rattle.cluster_ties.specs.Views.{AreBy, AreOf, beside, holder, pairs_from}
use Rattle.tree_process.specs.Nodes.{core_of}
use Rattle.cluster_process.proofs.Entered.{entering}
use Rattle.cluster_process.proofs.Turning.{are_of}
use Rattle.cluster_process.proofs.entering.enter_seats.Goals as goal

pub put-requires-clause-mine : goal.put-requires-clause-mine
put-requires-clause-mine g c =
    subst (λ o. AreOf o c.args.entries.now) (sym c.requires.seat.1)
    (are_of g.N.Seats.tree c.args.seat.now.me.0.process.net c.args.me c.args.entries.now
    c.requires.made.given)

pub put-requires-clause-by : goal.put-requires-clause-by
put-requires-clause-by g c =
    let caller = ap (λ m. m.0.pass.caller) c.requires.pass in
    subst (λ n. AreBy n c.args.entries.now) (sym caller) c.requires.made.by_caller

pub returns-clause-pass : goal.returns-clause-pass
returns-clause-pass g c =
    let p = c.args.pass.now.me.0.pass in
    let zs = c.args.entries.now in
    let caller = ap (λ m. m.0.pass.caller) c.requires.pass in (
      c.put.ensures.pass.0,
      c.put.ensures.pass.1
          ∙ ap (λ n. (holder n (p.pairs ++ pairs_from c.args.journal.now.me.0.journal.all zs), [])) caller,
    )

pub returns-clause-cut : goal.returns-clause-cut
returns-clause-cut g c =
    let v = beside c.args.journal.now.me.0 c.args.seat.now.me.0 in
    let entered = entering g.N.Seats.tree c.args.me v c.args.caller c.args.entries.now
    (core_of c.args.node.now)
    c.requires.tree.0 c.requires.tree.1 c.requires.seat.1 c.put.ensures.told c.requires.made c.requires.cut in
    entered.has_cut

pub returns-clause-own : goal.returns-clause-own
returns-clause-own g c =
    let v = beside c.args.journal.now.me.0 c.args.seat.now.me.0 in
    let entered = entering g.N.Seats.tree c.args.me v c.args.caller c.args.entries.now
    (core_of c.args.node.now)
    c.requires.tree.0 c.requires.tree.1 c.requires.seat.1 c.put.ensures.told c.requires.made c.requires.cut in
    entered.runs
