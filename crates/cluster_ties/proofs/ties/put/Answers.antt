use Rattle.std.proofs.Common.{◌∙◌, ap, refl, subst, sym}
use Rattle.atomic_table.specs.Table.{keeps}
use Rattle.cluster_ties.specs.Views.{AreBy, AreOf, beside_pass, entered}
use Rattle.cluster_ties.specs.Plays.{IsUpTo}
use Rattle.cluster_ties.proofs.Moves
use Rattle.cluster_ties.proofs.Parting
use Rattle.cluster_ties.proofs.ties.put.Goals as goal

pub compare_exchange_with-requires : goal.compare_exchange_with-requires
compare_exchange_with-requires c =
    let e = c.lend.ensures.journal in
    let f = c.lend_pass.ensures.journal in
    let v = c.lend_pass.new.journal.me.0 in
    let kept = ap (λ m. m.0.journal.keeps) f.1 ∙ ap (λ m. m.0.journal.keeps) e.1
    ∙ ap (λ m. m.0.journal.keeps) c.requires.journal in
    let process = ap (λ m. m.0.process) f.1 ∙ ap (λ m. m.0.process) e.1 in
    let works = ap (λ p. p.works) process ∙ c.requires.seat.1 in
    let holds = ap (λ m. m.0.pass.holds) f.1 ∙ ap (λ m. m.0.pass.holds) c.requires.pass in
    let caller = ap (λ m. m.0.pass.caller) f.1 in
    let zs = c.args.entries.now in
    let mine = subst (λ p. AreOf p.name zs) (sym process) c.requires.mine in
    let by_it = subst (λ n. AreBy n zs) (sym caller) c.requires.by in (
      f.0 ∙ e.0 ∙ c.requires.here.0,
      c.requires.here.2,
      λ s h long at fits. (
        entered v zs,
        keeps,
        tt,
        Moves.puts _ s.views _ v h at zs kept works holds mine by_it,
        (refl, Moves.up_to _ s.views _ v h at kept works),
      ),
    )

pub split_seat-requires : goal.split_seat-requires
split_seat-requires c =
    let e = c.lend.ensures.journal in
    let f = c.lend_pass.ensures.journal in
    let l = c.compare_exchange_with.ensures in
    let holds = ap (λ m. m.0.pass.holds) l.2.0 ∙ ap (λ m. m.0.pass.holds) f.1
    ∙ ap (λ m. m.0.pass.holds) c.requires.pass in (
      l.0 ∙ f.0 ∙ e.0 ∙ c.requires.here.0,
      c.requires.here.2,
      λ s h at. Parting.parts_pass _ s.views _ _ h at holds,
    )

pub split_seat-requires-2 : goal.split_seat-requires-2
split_seat-requires-2 c =
    let e = c.lend.ensures.journal in
    let f = c.lend_pass.ensures.journal in
    let l = c.compare_exchange_with.ensures in
    let k = c.split_seat.ensures in
    let works = ap (λ m. m.0.process.works) k.2 ∙ ap (λ m. m.0.process.works) l.2.0
    ∙ ap (λ m. m.0.process.works) f.1 ∙ ap (λ m. m.0.process.works) e.1 ∙ c.requires.seat.1 in (
      k.0 ∙ l.0 ∙ f.0 ∙ e.0 ∙ c.requires.here.0,
      c.requires.here.2,
      λ s h at. Parting.parts _ s.views _ _ h at works,
    )

pub returns-clause-told : goal.returns-clause-told
returns-clause-told c =
    let e = c.lend.ensures.journal in
    let f = c.lend_pass.ensures.journal in
    let told = subst IsUpTo
    (ap (λ m. m.0) f.1 ∙ ap (λ m. beside_pass m.0 c.args.pass.now.me.0) e.1)
    c.compare_exchange_with.ensures.2.1 in
    record { own = told.own; sent = told.sent }
