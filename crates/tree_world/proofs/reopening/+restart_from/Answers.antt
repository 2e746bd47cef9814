use Rattle.std.proofs.Common.{rules, ◌∙◌, ◌+◌, ◌≤◌, arith, drop, length, reverse, sym, ap, Some}
use Rattle.std.proofs.lemmas.List.{nil_from_length}
use Rattle.tree_world.specs.Readied.{AreReady}
use Rattle.tree_world.proofs.FromReady.{found_in, past_in}
use Rattle.tree_world.proofs.FromRestarted.{given_at, given_from, no_store_given, no_store_restarted, none_restarted, not_restarted_at, not_restarted_from, ready_at, ready_behind, restarted_from}
use Rattle.tree_world.proofs.reopening.+restart_from.Goals as goal

-- There is no process at the place.

pub returns-in_default-clause-ok : goal.returns-in_default-clause-ok
returns-in_default-clause-ok g t c =
    none_restarted g.L.LogStore.bytes c.args.tree.now c.args.place c.args.stores.now.items
    c.args.nodes.now.entries
    c.args.journal.now
    (past_in c.entries.result.now c.args.tree.now c.args.place c.entries.ensures
    c.in_default.ensures.lookup.3)
    c.requires.empty

-- There is no store for it.

pub returns-in_default-pop-clause-err : goal.returns-in_default-pop-clause-err
returns-in_default-pop-clause-err g t c =
    let at = found_in c.entries.result.now c.args.tree.now c.args.place c.in-Some.entry c.entries.ensures
    c.in-Some.ensures.lookup in
    no_store_restarted g.L.LogStore.bytes g.L.LogStore.forced g.L.LogStore.failures
    c.args.tree.now c.args.place
    c.in-Some.entry.now at.0 at.1 c.args.stores.now.items
    (nil_from_length c.args.stores.now.items (sym c.args.stores.now.ok.0 ∙ c.in_default-pop.ensures.cases.0))

pub returns-in_default-pop-clause-handed_back : goal.returns-in_default-pop-clause-handed_back
returns-in_default-pop-clause-handed_back g t c =
    let at = found_in c.entries.result.now c.args.tree.now c.args.place c.in-Some.entry c.entries.ensures
    c.in-Some.ensures.lookup in
    no_store_given g.L.LogStore.bytes g.L.LogStore.forced g.L.LogStore.failures c.args.tree.now c.args.place
    c.in-Some.entry.now at.0 at.1 c.args.stores.now.items c.pop.new.self.items _
    (nil_from_length c.args.stores.now.items (sym c.args.stores.now.ok.0 ∙ c.in_default-pop.ensures.cases.0))
    (nil_from_length c.pop.new.self.items (sym c.pop.new.self.ok.0 ∙ c.in_default-pop.ensures.cases.1))

pub restarted-requires : goal.restarted-requires
restarted-requires g t c =
    let at = found_in c.entries.result.now c.args.tree.now c.args.place c.in-Some.entry c.entries.ensures
    c.in-Some.ensures.lookup in
    ready_at g.L.LogStore.bytes g.L.LogStore.forced g.L.LogStore.failures c.args.tree.now c.args.place
    c.in-Some.entry.now at.0 at.1 c.args.stores.now.items c.pop.new.self.items c.in-Some-pop.store
    c.in-Some-pop.ensures.items c.requires.ready

-- It did not restart.

pub returns-in-Err-clause-err : goal.returns-in-Err-clause-err
returns-in-Err-clause-err g t c =
    let at = found_in c.entries.result.now c.args.tree.now c.args.place c.in-Some.entry c.entries.ensures
    c.in-Some.ensures.lookup in
    not_restarted_at g.L.LogStore.bytes g.L.LogStore.forced g.L.LogStore.failures c.args.tree.now c.args.place
    c.in-Some.entry.now at.0 at.1 c.args.stores.now.items c.pop.new.self.items
    c.in-Some-pop.store c.in-Err.error
    c.requires.tree c.in-Some-pop.ensures.items c.in-Err.ensures.err

pub returns-in-Err-clause-handed_back : goal.returns-in-Err-clause-handed_back
returns-in-Err-clause-handed_back g t c =
    let at = found_in c.entries.result.now c.args.tree.now c.args.place c.in-Some.entry c.entries.ensures
    c.in-Some.ensures.lookup in
    given_at g.L.LogStore.bytes g.L.LogStore.forced g.L.LogStore.failures c.args.tree.now c.args.place
    c.in-Some.entry.now at.0 at.1 c.args.stores.now.items c.pop.new.self.items c.put_back.new.stores.items
    c.in-Some-pop.store c.in-Err.store c.in-Err.error c.in-Some-pop.ensures.items c.put_back.ensures.items
    (ready_behind g.L.LogStore.bytes g.L.LogStore.forced g.L.LogStore.failures c.args.tree.now c.args.place
    c.in-Some.entry.now at.0 at.1 c.args.stores.now.items c.pop.new.self.items c.in-Some-pop.store
    c.in-Some-pop.ensures.items c.requires.ready) c.in-Err.ensures.handed_back

pub restart_from-requires : goal.restart_from-requires
restart_from-requires g t c =
    let at = found_in c.entries.result.now c.args.tree.now c.args.place c.in-Some.entry c.entries.ensures
    c.in-Some.ensures.lookup in
    let more : c.args.place + 1 ≤ length c.args.tree.now = omega (arith, at.0) in
    let ready : AreReady g.L.LogStore.bytes (drop (c.args.place + 1) c.args.tree.now)
    (reverse c.pop.new.self.items) =
    ready_behind g.L.LogStore.bytes g.L.LogStore.forced g.L.LogStore.failures c.args.tree.now c.args.place
    c.in-Some.entry.now at.0 at.1 c.args.stores.now.items c.pop.new.self.items c.in-Some-pop.store
    c.in-Some-pop.ensures.items c.requires.ready in
    λ κs below. (
      search rules,
      (
        below,
        (
          c.requires.tree,
          (more, (c.requires.empty, (c.requires.room, ready))),
        ),
      ),
    )

-- It did, and so did those after it.

pub returns-in-Ok-restart_from-clause-ok : goal.returns-in-Ok-restart_from-clause-ok
returns-in-Ok-restart_from-clause-ok g t c =
    let at = found_in c.entries.result.now c.args.tree.now c.args.place c.in-Some.entry c.entries.ensures
    c.in-Some.ensures.lookup in
    restarted_from g.L.LogStore.bytes g.L.LogStore.forced g.L.LogStore.failures c.args.tree.now c.args.place
    c.in-Some.entry.now at.0 at.1 c.args.stores.now.items c.pop.new.self.items
    c.in-Some-pop.store c.in-Ok.node
    c.restart_from.new.nodes.entries c.put_by_name.new.values.entries c.args.journal.now
    c.restarted.new.journal
    c.restart_from.new.journal c.requires.tree c.in-Some-pop.ensures.items c.in-Ok.ensures.ok
    (c.put_by_name.ensures.own ∙ ap Some c.new.ensures) c.put_by_name.ensures.others
    c.in-Ok-restart_from.ensures.ok

-- It did, and one after it did not.

pub returns-in-Err-restart_from-clause-err : goal.returns-in-Err-restart_from-clause-err
returns-in-Err-restart_from-clause-err g t c =
    let at = found_in c.entries.result.now c.args.tree.now c.args.place c.in-Some.entry c.entries.ensures
    c.in-Some.ensures.lookup in
    not_restarted_from g.L.LogStore.bytes g.L.LogStore.forced g.L.LogStore.failures
    c.args.tree.now c.args.place
    c.in-Some.entry.now at.0 at.1 c.args.stores.now.items c.pop.new.self.items c.in-Some-pop.store
    c.in-Err-restart_from.error c.requires.tree c.in-Some-pop.ensures.items c.in-Err-restart_from.ensures.err

pub returns-in-Err-restart_from-clause-handed_back : goal.returns-in-Err-restart_from-clause-handed_back
returns-in-Err-restart_from-clause-handed_back g t c =
    let at = found_in c.entries.result.now c.args.tree.now c.args.place c.in-Some.entry c.entries.ensures
    c.in-Some.ensures.lookup in
    given_from g.L.LogStore.bytes g.L.LogStore.forced g.L.LogStore.failures c.args.tree.now c.args.place
    c.in-Some.entry.now at.0 at.1 c.args.stores.now.items c.pop.new.self.items c.restart_from.new.stores.items
    c.put_back-in-Err-restart_from.new.stores.items c.in-Some-pop.store c.into_store.result c.in-Ok.node
    c.args.journal.now c.restarted.new.journal c.in-Err-restart_from.error c.in-Some-pop.ensures.items
    c.put_back-in-Err-restart_from.ensures.items c.in-Ok.ensures.ok c.into_store.ensures
    c.in-Err-restart_from.ensures.handed_back
