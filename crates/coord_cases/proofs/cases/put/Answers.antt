use Rattle.std.proofs.Common.{Some, refl, subst}
use Rattle.case_table.specs.Tables.{Updates, entry_at}
use Rattle.case_table.specs.Lends.{rewritten, with_value}
use Rattle.case_table.proofs.Writes.{Updates-set}
use Rattle.coord_cases.proofs.Changing.{puts_again, puts_first}
use Rattle.coord_cases.proofs.cases.put.Goals as goal

pub returns-in-Some-get_mut-clause-ok : goal.returns-in-Some-get_mut-clause-ok
returns-in-Some-get_mut-clause-ok c =
    let found = c.in-Some.ensures.finds in
    let updates : Updates c.args.table.now (with_value c.args.table.now c.in-Some.key c.args.held)
    c.in-Some.key (Some (c.args.case, c.args.held)) =
    subst (λ e. Updates c.args.table.now (with_value c.args.table.now c.in-Some.key c.args.held) c.in-Some.key
    (rewritten e c.args.held)) found.1
    (Updates-set c.args.table.now c.in-Some.key
    (rewritten (entry_at c.args.table.now c.in-Some.key) c.args.held) (rw found.1 refl)) in
    puts_again c.args.table.now (with_value c.args.table.now c.in-Some.key c.args.held) c.args.case found.0
    c.args.held c.in-Some.key c.in-Some.ensures.apart found.1 updates

pub returns-in_ok-insert-in-None-clause-ok : goal.returns-in_ok-insert-in-None-clause-ok
returns-in_ok-insert-in-None-clause-ok c =
    puts_first c.args.table.now c.insert.new.self c.args.case c.args.held c.in_ok-insert-in-None.field-0
    c.in-None.ensures.finds c.in_ok-insert-in-None.ensures.ok
