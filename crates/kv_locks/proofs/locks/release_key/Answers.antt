use Rattle.std.proofs.Common.{rules, arith, ◌≡◌, Some, None, [], refl, position}
use Rattle.std.proofs.lemmas.Grind.{common_steps}
use Rattle.indexmap.specs.IndexMap.{keys}
use Rattle.key_lists.specs.Holders.{without}
use Rattle.key_lists.proofs.Lists.{none_left}
use Rattle.key_lists.proofs.Tables.{becomes_idle, found, key_test}
use Rattle.kv_locks.proofs.Places.{lets_go, lets_key_go}
use Rattle.kv_locks.proofs.locks.release_key.Goals as goal

pub returns-in_default : goal.returns-in_default
returns-in_default c =
    let none : found c.args.holders.now.entries c.args.key.now ≡ None = search rules in
    becomes_idle _ _ c.args.key.now (λ hs. without hs c.args.xid.now) refl none refl

pub returns-then-is_empty : goal.returns-then-is_empty
returns-then-is_empty c =
    let at : position (key_test c.args.key.now) (keys c.args.holders.now)
    ≡ Some c.in-Some.place = search rules in
    let empty : c.remove.new.holders.items ≡ [] =
    none_left c.remove.new.holders.items (grind (arith, common_steps)) in
    lets_key_go c.args.holders.now c.args.key.now c.in-Some.place c.index_mut-list.result.now
    c.remove.new.holders c.args.xid.now c.get_index_of.ensures.unique at c.index_mut-list.ensures.value
    c.remove.ensures c.swap_remove_index.new.self c.swap_remove_index.result empty
    c.swap_remove_index.ensures.entry c.swap_remove_index.ensures.updates

pub returns-else-is_empty : goal.returns-else-is_empty
returns-else-is_empty c =
    let at : position (key_test c.args.key.now) (keys c.args.holders.now)
    ≡ Some c.in-Some.place = search rules in
    lets_go c.args.holders.now c.args.key.now c.in-Some.place c.index_mut-list.result.now
    c.remove.new.holders c.args.xid.now c.get_index_of.ensures.unique at c.index_mut-list.ensures.value
    c.remove.ensures
