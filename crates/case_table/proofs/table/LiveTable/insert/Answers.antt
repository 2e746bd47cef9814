use Rattle.std.proofs.Common.{rules, ◌≡◌, None, Some, subst}
use Rattle.case_table.specs.Tables.{Inserts, Updates, entry_at}
use Rattle.case_table.proofs.Kept.{Inserts-insert, IsKept-inserted}
use Rattle.case_table.proofs.table.LiveTable.insert.Goals as goal

pub invariant_of-self-2 : goal.invariant_of-self-2
invariant_of-self-2 g c =
    let vacant : entry_at c.self.inside.slots.slots c.insert_reserved.result ≡ None = search rules in
    let updates : Updates c.self.inside.slots.slots c.insert_reserved.new.self.slots c.insert_reserved.result
    (Some (c.args.case, c.args.value)) = record { changed = search rules; others = search rules } in
    IsKept-inserted _ _ _ _ c.args.case c.args.value c.insert_reserved.result c.self.invariant (search rules)
    vacant updates (search rules)

pub returns-clause-ok : goal.returns-clause-ok
returns-clause-ok g c =
    let vacant : entry_at c.self.inside.slots.slots c.insert_reserved.result ≡ None = search rules in
    let updates : Updates c.self.inside.slots.slots c.insert_reserved.new.self.slots c.insert_reserved.result
    (Some (c.args.case, c.args.value)) = record { changed = search rules; others = search rules } in
    let inserts : Inserts c.self.inside.slots.slots c.insert_reserved.new.self.slots c.args.case
    c.args.value c.insert_reserved.result =
    Inserts-insert _ _ _ c.args.case c.args.value c.insert_reserved.result c.self.invariant (search rules)
    vacant updates (search rules) in
    subst (λ old. Inserts old c.insert_reserved.new.self.slots c.args.case c.args.value
    c.insert_reserved.result) c.self.view_is inserts
