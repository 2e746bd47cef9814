use Rattle.std.proofs.Common.{◌∙◌, ap, refl}
use Rattle.atomic_table.specs.Table.{keeps}
use Rattle.tree_state.specs.Cuts.{net_of}
use Rattle.cluster_ties.specs.Views.{entries_in, noted, own_of, with_net, worker}
use Rattle.cluster_ties.proofs.Moves
use Rattle.cluster_ties.proofs.Parting
use Rattle.cluster_ties.proofs.ties.note_net.Goals as goal

pub load-requires : goal.load-requires
load-requires c =
    let e = c.lend.ensures.journal in
    let v = c.lend.new.journal.me.0 in
    let kept = ap (λ m. m.0.journal.keeps) e.1 ∙ ap (λ m. m.0.journal.keeps) c.requires.journal in
    let works = ap (λ m. m.0.process.works) e.1 ∙ c.requires.seat.1 in (
      e.0 ∙ c.requires.here.0,
      c.requires.here.2,
      λ s h long at fits. (
        with_net v,
        keeps,
        tt,
        Moves.notes _ s.views _ v h at kept works,
        (refl, Moves.sees _ s.views _ v h at kept works),
      ),
    )

pub split_seat-requires : goal.split_seat-requires
split_seat-requires c =
    let e = c.lend.ensures.journal in
    let l = c.load.ensures in
    let works = ap (λ m. m.0.process.works) l.2.0 ∙ ap (λ m. m.0.process.works) e.1 ∙ c.requires.seat.1 in (
      l.0 ∙ e.0 ∙ c.requires.here.0,
      c.requires.here.2,
      λ s h at. Parting.parts _ s.views _ _ h at works,
    )
