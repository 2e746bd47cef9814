use Rattle.std.proofs.Common.{rules, arith, ◌≡◌, Some, None, length}
use Rattle.std.proofs.lemmas.Grind.{common_steps}
use Rattle.case_table.specs.Tables.{place_in}
use Rattle.case_table.proofs.Keys.{listed-absent}
use Rattle.case_table.proofs.Places.{drops_here, drops_list, unlisted}
use Rattle.case_table.proofs.lists.drop_key.Goals as goal

pub returns-in_default : goal.returns-in_default
returns-in_default c =
    let none : place_in c.args.keys.now.entries c.args.txn.now ≡ None = search rules in
    listed-absent c.args.txn.now c.args.keys.now.entries c.args.key
    (unlisted c.args.keys.now.entries c.args.txn.now none)

pub returns-then-is_empty : goal.returns-then-is_empty
returns-then-is_empty c =
    let at : place_in c.args.keys.now.entries c.args.txn.now ≡ Some c.in-Some.place = search rules in
    let empty : length c.without.new.list.items ≡ 0 = grind (arith, common_steps) in
    drops_list c.args.keys.now c.args.txn.now c.in-Some.place c.index_mut-list.result.now c.without.new.list
    c.args.key c.place_of.ensures.once at c.index_mut-list.ensures.value c.without.ensures
    c.swap_remove_index.new.self c.swap_remove_index.result empty
    c.swap_remove_index.ensures.entry c.swap_remove_index.ensures.updates

pub returns-else-is_empty : goal.returns-else-is_empty
returns-else-is_empty c =
    let at : place_in c.args.keys.now.entries c.args.txn.now ≡ Some c.in-Some.place = search rules in
    drops_here c.args.keys.now c.args.txn.now c.in-Some.place c.index_mut-list.result.now c.without.new.list
    c.args.key c.place_of.ensures.once at c.index_mut-list.ensures.value c.without.ensures
