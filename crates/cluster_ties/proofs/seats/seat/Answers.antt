use Rattle.std.proofs.Common.{ap}
use Rattle.cluster_ties.proofs.Parting
use Rattle.cluster_ties.proofs.seats.seat.Goals as goal

pub split_seat-requires : goal.split_seat-requires
split_seat-requires c =
    let is = c.requires.journal in (
      c.requires.here.0,
      c.requires.here.1,
      λ s h at. Parting.opens _ s.views _ _ h at
          (ap (λ m. m.0.journal.keeps) is) (ap (λ m. m.0.process.works) is) c.requires.place,
    )
