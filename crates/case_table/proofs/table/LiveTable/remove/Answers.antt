use Rattle.std.proofs.Common.{rules, ◌≡◌, None, Some, subst}
use Rattle.case_table.specs.Tables.{Removes, Updates, entry_at}
use Rattle.case_table.proofs.Kept.{IsKept-removed, Removes-remove}
use Rattle.case_table.proofs.table.LiveTable.remove.Goals as goal

pub invariant_of-self : goal.invariant_of-self
invariant_of-self g c =
    let was : entry_at c.self.inside.slots.slots c.args.key ≡ Some c.remove-value.result = search rules in
    let updates : Updates c.self.inside.slots.slots c.remove-value.new.self.slots c.args.key None =
    record { changed = search rules; others = search rules } in
    IsKept-removed _ _ _ _ c.remove-value.result.0 c.remove-value.result.1 c.args.key
    c.self.invariant was updates (search rules)

pub returns : goal.returns
returns g c =
    let was : entry_at c.self.inside.slots.slots c.args.key ≡ Some c.remove-value.result = search rules in
    let updates : Updates c.self.inside.slots.slots c.remove-value.new.self.slots c.args.key None =
    record { changed = search rules; others = search rules } in
    let removes : Removes c.self.inside.slots.slots c.remove-value.new.self.slots
    c.args.key c.remove-value.result.1 =
    Removes-remove _ _ _ c.remove-value.result.0 c.remove-value.result.1 c.args.key c.self.invariant
    was updates (search rules) in
    subst (λ old. Removes old c.remove-value.new.self.slots c.args.key
    c.remove-value.result.1) c.self.view_is removes
