use Rattle.std.proofs.Common.{◌∙◌, sym, ap, Some}
use Rattle.std.proofs.lemmas.List.{nil_from_length}
use Rattle.tree_world.proofs.FromPlaces.{found_at, handed_back_at, handed_back_from, no_store_at, none_from, none_handed_back_at, opened_from, refused_at, refused_from}
use Rattle.tree_world.proofs.opening.+open_from.Goals as goal

-- There is no process at the place.

pub returns-in_default-clause-ok : goal.returns-in_default-clause-ok
returns-in_default-clause-ok g t c =
    none_from c.args.tree.now c.args.place c.args.nodes.now.entries c.in_default.ensures.lookup.3
    c.requires.empty

-- There is no store for it.

pub returns-in_default-pop-clause-err : goal.returns-in_default-pop-clause-err
returns-in_default-pop-clause-err g t c =
    let at = found_at c.args.tree.now c.args.place c.in-Some.entry c.in-Some.ensures.lookup in
    no_store_at g.L.LogStore.bytes g.L.LogStore.forced g.L.LogStore.failures c.args.tree.now c.args.place
    c.in-Some.entry.now at.0 at.1 c.args.stores.now.items
    (nil_from_length c.args.stores.now.items (sym c.args.stores.now.ok.0 ∙ c.in_default-pop.ensures.cases.0))

pub returns-in_default-pop-clause-handed_back : goal.returns-in_default-pop-clause-handed_back
returns-in_default-pop-clause-handed_back g t c =
    let at = found_at c.args.tree.now c.args.place c.in-Some.entry c.in-Some.ensures.lookup in
    none_handed_back_at g.L.LogStore.bytes g.L.LogStore.forced g.L.LogStore.failures
    c.args.tree.now c.args.place
    c.in-Some.entry.now at.0 at.1 c.args.stores.now.items c.pop.new.self.items _
    (nil_from_length c.args.stores.now.items (sym c.args.stores.now.ok.0 ∙ c.in_default-pop.ensures.cases.0))
    (nil_from_length c.pop.new.self.items (sym c.pop.new.self.ok.0 ∙ c.in_default-pop.ensures.cases.1))

-- It did not open over its store.

pub returns-in-Err-clause-err : goal.returns-in-Err-clause-err
returns-in-Err-clause-err g t c =
    let at = found_at c.args.tree.now c.args.place c.in-Some.entry c.in-Some.ensures.lookup in
    refused_at g.L.LogStore.bytes g.L.LogStore.forced g.L.LogStore.failures c.args.tree.now c.args.place
    c.in-Some.entry.now at.0 at.1 c.args.stores.now.items c.pop.new.self.items
    c.in-Some-pop.store c.in-Err.error
    c.in-Some-pop.ensures.items c.in-Err.ensures.err

pub returns-in-Err-clause-handed_back : goal.returns-in-Err-clause-handed_back
returns-in-Err-clause-handed_back g t c =
    let at = found_at c.args.tree.now c.args.place c.in-Some.entry c.in-Some.ensures.lookup in
    handed_back_at g.L.LogStore.bytes g.L.LogStore.forced g.L.LogStore.failures c.args.tree.now c.args.place
    c.in-Some.entry.now at.0 at.1 c.args.stores.now.items c.pop.new.self.items c.put_back.new.stores.items
    c.in-Some-pop.store c.in-Err.store c.in-Err.error c.in-Some-pop.ensures.items c.put_back.ensures.items
    c.in-Err.ensures.handed_back

-- It opened, and so did those after it.

pub returns-in-Ok-open_from-clause-ok : goal.returns-in-Ok-open_from-clause-ok
returns-in-Ok-open_from-clause-ok g t c =
    let at = found_at c.args.tree.now c.args.place c.in-Some.entry c.in-Some.ensures.lookup in
    opened_from c.args.tree.now c.args.place c.in-Some.entry.now c.open_from.new.nodes.entries
    c.put_by_name.new.values.entries c.in-Ok.node c.requires.tree at.0 at.1 c.in-Ok.ensures.ok
    c.in-Ok.ensures.holdings (c.put_by_name.ensures.own ∙ ap Some c.new.ensures) c.put_by_name.ensures.others
    c.in-Ok-open_from.ensures.ok

-- It opened, and one after it did not.

pub returns-in-Err-open_from-clause-err : goal.returns-in-Err-open_from-clause-err
returns-in-Err-open_from-clause-err g t c =
    let at = found_at c.args.tree.now c.args.place c.in-Some.entry c.in-Some.ensures.lookup in
    refused_from g.L.LogStore.bytes g.L.LogStore.forced g.L.LogStore.failures c.args.tree.now c.args.place
    c.in-Some.entry.now at.0 at.1 c.args.stores.now.items c.pop.new.self.items c.in-Some-pop.store
    c.in-Err-open_from.error c.requires.tree c.in-Some-pop.ensures.items c.in-Err-open_from.ensures.err

pub returns-in-Err-open_from-clause-handed_back : goal.returns-in-Err-open_from-clause-handed_back
returns-in-Err-open_from-clause-handed_back g t c =
    let at = found_at c.args.tree.now c.args.place c.in-Some.entry c.in-Some.ensures.lookup in
    handed_back_from g.L.LogStore.bytes g.L.LogStore.forced g.L.LogStore.failures c.args.tree.now c.args.place
    c.in-Some.entry.now at.0 at.1 c.args.stores.now.items c.pop.new.self.items c.open_from.new.stores.items
    c.put_back-in-Err-open_from.new.stores.items c.in-Some-pop.store c.into_store.result c.in-Ok.node
    c.in-Err-open_from.error c.in-Some-pop.ensures.items c.put_back-in-Err-open_from.ensures.items
    c.in-Ok.ensures.ok c.into_store.ensures c.in-Err-open_from.ensures.handed_back
