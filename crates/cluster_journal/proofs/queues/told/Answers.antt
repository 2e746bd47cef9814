use Rattle.std.proofs.Common.{refl}
use Rattle.cluster_journal.proofs.Telling.{fits_claimed, fits_open, told_same}
use Rattle.cluster_journal.proofs.queues.told.Goals as goal

pub counted-requires : goal.counted-requires
counted-requires c =
    fits_open c.args.marks.now c.args.place _ _ c.args.mark c.args.receiver c.requires.place
    refl c.requires.mine
    c.requires.told _ _ _ refl c.is_open.ensures c.is_open-2.ensures

pub counted-requires-2 : goal.counted-requires-2
counted-requires-2 c =
    fits_claimed c.args.marks.now c.args.place _ _ c.args.mark c.args.receiver c.requires.place
    refl c.requires.mine
    c.requires.told _ _ _ refl c.is_claimed.ensures c.is_claimed-2.ensures

pub returns-clause-told : goal.returns-clause-told
returns-clause-told c =
    told_same c.args.marks.now c.args.place _ _ c.args.mark c.args.receiver _ c.requires.place
    refl c.requires.mine
    c.requires.told refl refl c.first_after.ensures.either c.first_after.ensures.less
    c.first_after.ensures.opened _ _
    c.is_open.ensures c.is_open-2.ensures c.counted.ensures _ _ c.is_claimed.ensures c.is_claimed-2.ensures
    c.counted-2.ensures
