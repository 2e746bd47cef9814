use Rattle.std.proofs.Common.{◌<◌, rules, subst, sym}
use Rattle.xa_assoc.specs.Associations.{ArePositiveCounts}
use Rattle.xa_assoc.proofs.Listed.{inserted, removed}
use Rattle.xa_assoc.proofs.seats.recount.Goals as goal

pub returns-then-count-eq0-clause-counted : goal.returns-then-count-eq0-clause-counted
returns-then-count-eq0-clause-counted g c = λ h.
    subst ArePositiveCounts (sym c.swap_remove.ensures.entries) (removed _ _ h)

pub returns-in_ok-insert-clause-counted : goal.returns-in_ok-insert-clause-counted
returns-in_ok-insert-clause-counted g c = λ h.
    let some : 0 < c.args.count = search rules in
    subst ArePositiveCounts (sym c.in_ok-insert.ensures.entries) (inserted _ _ _ _ some h)
