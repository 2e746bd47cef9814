use Rattle.kv_store.proofs.Sorted.{tests_next}
use Rattle.kv_store.proofs.data_pairs.is_next.Goals as goal

pub returns-in-Some : goal.returns-in-Some
returns-in-Some c =
    tests_next c.eq.result c.args.key.now c.in-Some.next.now c.args.behind.now c.eq.ensures
    c.in-Some.ensures.item.3.0 c.in-Some.ensures.item.1
