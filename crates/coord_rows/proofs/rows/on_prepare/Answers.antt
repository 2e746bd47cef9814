use Rattle.std.proofs.Common.{rules, ◌≡◌, ap, subst, sym}
use Rattle.protocol.specs.declared.standings.Standing.TheVariants.{Aborting, Unknown}
use Rattle.protocol.specs.CoordinatorRows.{on_prepare}
use Rattle.coord_effects.specs.Rows.{DoesRow, seat_meant}
use Rattle.coord_rows.proofs.rows.on_prepare.Goals as goal

pub returns-in_ok-aborting_prepare-in-Aborting-clause-ok : goal.returns-in_ok-aborting_prepare-in-Aborting-clause-ok
returns-in_ok-aborting_prepare-in-Aborting-clause-ok c =
    let stands : c.args.live.now.standing ≡ Aborting = search rules in
    subst (λ row. DoesRow c.args.seat row c.in_ok-aborting_prepare-in-Aborting.field-0 c.args.live.now)
    (sym (ap (on_prepare (seat_meant c.args.seat) c.args.live.now) stands))
    (c.in_ok-aborting_prepare-in-Aborting.ensures c.args.live.now)

pub returns-in_ok-unknown_prepare-in-Unknown-clause-ok : goal.returns-in_ok-unknown_prepare-in-Unknown-clause-ok
returns-in_ok-unknown_prepare-in-Unknown-clause-ok c =
    let stands : c.args.live.now.standing ≡ Unknown = search rules in
    subst (λ row. DoesRow c.args.seat row c.in_ok-unknown_prepare-in-Unknown.field-0 c.args.live.now)
    (sym (ap (on_prepare (seat_meant c.args.seat) c.args.live.now) stands))
    (c.in_ok-unknown_prepare-in-Unknown.ensures c.args.live.now)
