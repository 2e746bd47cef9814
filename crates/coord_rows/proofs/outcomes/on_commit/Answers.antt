use Rattle.std.proofs.Common.{rules, ◌≡◌, ap, subst, sym}
use Rattle.protocol.specs.declared.standings.Standing.TheVariants.{Committing}
use Rattle.protocol.specs.CoordinatorRows.{on_commit}
use Rattle.process_state.specs.Turns.{this_version}
use Rattle.coord_effects.specs.Rows.{DoesRow, seat_meant}
use Rattle.coord_rows.proofs.outcomes.on_commit.Goals as goal

pub returns-in-Committing-clause-ok : goal.returns-in-Committing-clause-ok
returns-in-Committing-clause-ok c =
    let stands : c.args.live.now.standing ≡ Committing = search rules in
    subst (λ row. DoesRow c.args.seat row c.committing_commit.result c.args.live.now)
    (sym (ap (on_commit this_version (seat_meant c.args.seat) c.args.live.now) stands))
    (c.committing_commit.ensures c.args.seat c.args.live.now)
