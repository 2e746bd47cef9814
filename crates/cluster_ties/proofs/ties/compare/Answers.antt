use Rattle.std.proofs.Common.{◌∙◌, ap, refl, subst, sym}
use Rattle.atomic_table.specs.Table.{keeps}
use Rattle.atomic_table.proofs.Lists.{set_again}
use Rattle.cluster_ties.specs.Rule.{IsTied}
use Rattle.cluster_ties.proofs.Moves
use Rattle.cluster_ties.proofs.Parting
use Rattle.cluster_ties.proofs.ties.compare.Goals as goal

pub load-requires : goal.load-requires
load-requires c =
    let e = c.lend.ensures.journal in
    let v = c.lend.new.journal.me.0 in
    let kept = ap (λ m. m.0.journal.keeps) e.1 ∙ ap (λ m. m.0.journal.keeps) c.requires.journal in
    let works = ap (λ m. m.0.process.works) e.1 ∙ c.requires.seat.1 in
    let key = c.args.ties.now.shared.key.items in (
      e.0 ∙ c.requires.here.0,
      c.requires.here.2,
      λ s h long at fits. (
        v,
        keeps,
        tt,
        subst (IsTied key) (sym (set_again s.views _ v at)) h,
        (refl, Moves.sees _ s.views _ v h at kept works),
      ),
    )

pub split_seat-requires : goal.split_seat-requires
split_seat-requires c =
    let e = c.lend.ensures.journal in
    let l = c.load.ensures in
    let works = ap (λ m. m.0.process.works) l.2.0 ∙ ap (λ m. m.0.process.works) e.1 ∙ c.requires.seat.1 in (
      l.0 ∙ e.0 ∙ c.requires.here.0,
      c.requires.here.2,
      λ s h at. Parting.parts _ s.views _ _ h at works,
    )
