use Rattle.std.proofs.Common.{◌∙◌, sym}
use Rattle.std.proofs.lemmas.List.{nil_from_length}
use Rattle.tree_world.proofs.FromReady.{found_in, no_store_readied, no_store_returned, none_readied, not_readied_at, not_readied_from, own_kind, past_in, readied_from, returned_at, returned_from}
use Rattle.tree_world.proofs.reopening.+ready_from.Goals as goal

-- There is no process at the place.

pub returns-in_default-clause-ok : goal.returns-in_default-clause-ok
returns-in_default-clause-ok g t c =
    none_readied g.L.LogStore.bytes g.L.LogStore.failures c.args.tree.now c.args.place c.args.stores.now.items
    (past_in c.entries.result.now c.args.tree.now c.args.place c.entries.ensures
    c.in_default.ensures.lookup.3)

-- There is no store for it.

pub returns-in_default-pop-clause-err : goal.returns-in_default-pop-clause-err
returns-in_default-pop-clause-err g t c =
    let at = found_in c.entries.result.now c.args.tree.now c.args.place c.in-Some.entry c.entries.ensures
    c.in-Some.ensures.lookup in
    no_store_readied g.L.LogStore.bytes g.L.LogStore.forced g.L.LogStore.failures c.args.tree.now c.args.place
    c.in-Some.entry.now at.0 at.1 c.args.stores.now.items
    (nil_from_length c.args.stores.now.items (sym c.args.stores.now.ok.0 ∙ c.in_default-pop.ensures.cases.0))

pub returns-in_default-pop-clause-handed_back : goal.returns-in_default-pop-clause-handed_back
returns-in_default-pop-clause-handed_back g t c =
    let at = found_in c.entries.result.now c.args.tree.now c.args.place c.in-Some.entry c.entries.ensures
    c.in-Some.ensures.lookup in
    no_store_returned g.L.LogStore.bytes g.L.LogStore.forced g.L.LogStore.failures
    c.args.tree.now c.args.place
    c.in-Some.entry.now at.0 at.1 c.args.stores.now.items c.pop.new.self.items _
    (nil_from_length c.args.stores.now.items (sym c.args.stores.now.ok.0 ∙ c.in_default-pop.ensures.cases.0))
    (nil_from_length c.pop.new.self.items (sym c.pop.new.self.ok.0 ∙ c.in_default-pop.ensures.cases.1))

pub ready-requires : goal.ready-requires
ready-requires g t c =
    let at = found_in c.entries.result.now c.args.tree.now c.args.place c.in-Some.entry c.entries.ensures
    c.in-Some.ensures.lookup in
    own_kind c.args.tree.now c.args.place c.in-Some.entry.now c.requires.tree at.0 at.1

-- It was not made ready.

pub returns-in-Err-clause-err : goal.returns-in-Err-clause-err
returns-in-Err-clause-err g t c =
    let at = found_in c.entries.result.now c.args.tree.now c.args.place c.in-Some.entry c.entries.ensures
    c.in-Some.ensures.lookup in
    not_readied_at g.L.LogStore.bytes g.L.LogStore.forced g.L.LogStore.failures c.args.tree.now c.args.place
    c.in-Some.entry.now at.0 at.1 c.args.stores.now.items c.pop.new.self.items
    c.in-Some-pop.store c.in-Err.error
    c.in-Some-pop.ensures.items c.in-Err.ensures.err

pub returns-in-Err-clause-handed_back : goal.returns-in-Err-clause-handed_back
returns-in-Err-clause-handed_back g t c =
    let at = found_in c.entries.result.now c.args.tree.now c.args.place c.in-Some.entry c.entries.ensures
    c.in-Some.ensures.lookup in
    returned_at g.L.LogStore.bytes g.L.LogStore.forced g.L.LogStore.failures c.args.tree.now c.args.place
    c.in-Some.entry.now at.0 at.1 c.args.stores.now.items c.pop.new.self.items c.put_back.new.stores.items
    c.in-Some-pop.store c.in-Err.store c.in-Err.error c.in-Some-pop.ensures.items c.put_back.ensures.items
    c.in-Err.ensures.handed_back

-- It was, and so were those after it.

pub returns-in-Ok-ready_from-clause-ok : goal.returns-in-Ok-ready_from-clause-ok
returns-in-Ok-ready_from-clause-ok g t c =
    let at = found_in c.entries.result.now c.args.tree.now c.args.place c.in-Some.entry c.entries.ensures
    c.in-Some.ensures.lookup in
    readied_from g.L.LogStore.bytes g.L.LogStore.forced g.L.LogStore.failures c.args.tree.now c.args.place
    c.in-Some.entry.now at.0 at.1 c.args.stores.now.items c.pop.new.self.items c.ready_from.new.stores.items
    c.put_back-in-Ok-ready_from.new.stores.items c.in-Some-pop.store c.in-Ok.store c.in-Some-pop.ensures.items
    c.put_back-in-Ok-ready_from.ensures.items c.in-Ok.ensures.ok c.in-Ok-ready_from.ensures.ok

-- It was, and one after it was not.

pub returns-in-Err-ready_from-clause-err : goal.returns-in-Err-ready_from-clause-err
returns-in-Err-ready_from-clause-err g t c =
    let at = found_in c.entries.result.now c.args.tree.now c.args.place c.in-Some.entry c.entries.ensures
    c.in-Some.ensures.lookup in
    not_readied_from g.L.LogStore.bytes g.L.LogStore.forced g.L.LogStore.failures c.args.tree.now c.args.place
    c.in-Some.entry.now at.0 at.1 c.args.stores.now.items c.pop.new.self.items
    c.in-Some-pop.store c.in-Ok.store
    c.in-Err-ready_from.error c.requires.tree c.in-Some-pop.ensures.items c.in-Ok.ensures.ok
    c.in-Err-ready_from.ensures.err

pub returns-in-Err-ready_from-clause-handed_back : goal.returns-in-Err-ready_from-clause-handed_back
returns-in-Err-ready_from-clause-handed_back g t c =
    let at = found_in c.entries.result.now c.args.tree.now c.args.place c.in-Some.entry c.entries.ensures
    c.in-Some.ensures.lookup in
    returned_from g.L.LogStore.bytes g.L.LogStore.forced g.L.LogStore.failures c.args.tree.now c.args.place
    c.in-Some.entry.now at.0 at.1 c.args.stores.now.items c.pop.new.self.items c.ready_from.new.stores.items
    c.put_back-in-Err-ready_from.new.stores.items c.in-Some-pop.store c.in-Ok.store c.in-Err-ready_from.error
    c.in-Some-pop.ensures.items c.put_back-in-Err-ready_from.ensures.items c.in-Ok.ensures.ok
    c.in-Err-ready_from.ensures.handed_back
