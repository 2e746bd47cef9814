use Rattle.std.proofs.Common.{rules, [], sym, subst}
use Rattle.std.proofs.lemmas.List.{take_all}
use Rattle.kv_store.specs.Pairs.{AreSet}
use Rattle.kv_store.specs.Versions.{Sets, pair_write}
use Rattle.kv_store.proofs.Set.{set_next, set_none, set_pairs}
use Rattle.kv_store.proofs.versions.Versions.from_pairs.Goals as goal

pub loop-key-init : goal.loop-key-init
loop-key-init c = subst (λ v. AreSet v c.args.count []) (sym c.new-versions.ensures) (set_none c.args.count)

pub loop-key-preserved : goal.loop-key-preserved
loop-key-preserved c =
    let made : Sets c.loop-key.versions c.set.new.self (pair_write c.loop-key-item.result) = search rules in
    set_next c.loop-key.versions c.set.new.self c.args.count c.args.pairs.now c.loop-key.key-index
    c.loop-key-item.result c.loop-key-test.true c.loop-key-item.is c.loop-key.invariant made

pub returns-clause-pairs : goal.returns-clause-pairs
returns-clause-pairs c =
    set_pairs c.loop-key.versions c.args.count c.args.pairs.now
    (subst (AreSet c.loop-key.versions c.args.count)
    (take_all c.loop-key.key-index c.args.pairs.now c.loop-key-test.false) c.loop-key.invariant)
