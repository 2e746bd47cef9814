use Rattle.std.proofs.Common.{arith}
use Rattle.tree_faults.proofs.Traced.{kept_opened, no_trace}
use Rattle.tree_world.specs.Nodes.{kept_at}
use Rattle.tree_world.proofs.FromPlaces.{all_opened}
use Rattle.tree_world.proofs.HandedBack.{handed_back_all}
use Rattle.tree_world.proofs.Handling.{world}
use Rattle.tree_world.proofs.Modelled.{keeps_headline, opened_modelled}
use Rattle.tree_world.proofs.StorePlaces.{none_open}
use Rattle.tree_world.proofs.world.World.with_stores.Goals as goal

pub returns-in-Err-clause-err : goal.returns-in-Err-clause-err
returns-in-Err-clause-err g c =
    none_open g.L.LogStore.bytes g.L.LogStore.failures c.args.tree c.args.stores.items c.requires

pub returns-in-Err-clause-handed_back : goal.returns-in-Err-clause-handed_back
returns-in-Err-clause-handed_back g c =
    handed_back_all g.L.LogStore.bytes g.L.LogStore.forced g.L.LogStore.failures c.args.tree
    c.args.stores.items

pub invariant_of-result : goal.invariant_of-result
invariant_of-result g c =
    let opened = all_opened c.args.tree c.entries-2.result.now (kept_at c.open_from.new.nodes.entries)
    c.new-journal.result
    c.entries-2.ensures c.in_default.ensures.ok c.new-journal.ensures.net c.new-journal.ensures.delivered
    c.new-journal.ensures.entries in
    rw c.new-faults.ensures (record {
      run = opened_modelled c.args.tree _ c.requires opened;
      trace = kept_opened c.args.tree _ opened;
      places = omega arith;
    })

pub returns-clause-opened : goal.returns-clause-opened
returns-clause-opened g c =
    (all_opened c.args.tree c.entries-2.result.now (kept_at c.open_from.new.nodes.entries)
    c.new-journal.result
    c.entries-2.ensures c.in_default.ensures.ok c.new-journal.ensures.net c.new-journal.ensures.delivered
    c.new-journal.ensures.entries)

pub returns-clause-trace : goal.returns-clause-trace
returns-clause-trace g c =
    rw c.new-faults.ensures
    (no_trace (world c.args.tree (kept_at c.open_from.new.nodes.entries) c.new-journal.result)
    c.new-journal.ensures.entries)

pub returns-clause-headline : goal.returns-clause-headline
returns-clause-headline g c =
    keeps_headline _ (opened_modelled c.args.tree _ c.requires (returns-clause-opened g c))
